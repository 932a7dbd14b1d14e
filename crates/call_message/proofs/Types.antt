-- What the function of a type decided and left is what the outcome table from the type on decides and leaves.
use mathlib.Core.Path.{◌≡◌, refl, sym, subst⁻¹, ap, ◌∙◌}
use mathlib.Core.Bool.{false}
use mathlib.Core.List.{List}
use Prim.Native.Nat.{ℕ}
use Rattle.std.specs.Prelude.{Err}
use Rattle.rules.specs.declared.Kind.{Kind}
use Rattle.rules.specs.declared.Kind.TheVariants.{Other}
use Rattle.rules.specs.declared.Refusal.TheVariants.{N3}
use Rattle.rules.specs.Table.{first_of}
use Rattle.rules.specs.Message.{Query}
use Rattle.rules.specs.Outcome.{OK, View, type_unknown, on_type, from_N4, from_type}
use Rattle.rules.specs.Answer.{waited, tells_role}
use Rattle.rules.proofs.Tests.{cond-false}
use Rattle.record.specs.Memory.{Memories}
use Rattle.message_operation.specs.declared.Decision.{Decision}
use Rattle.message_operation.specs.Operation.{seen_in, decision_on, alone, Decides, Carries}
use Rattle.message_operation.proofs.Rows.{keeps_records}

known_type : (k : Kind) (v : View) (q : Query) → type_unknown k ≡ false → first_of OK (from_type v q k) ≡ first_of OK (from_N4 v q k)
unfolding from_type on_type first_of
known_type k v q e = cond-false _ _ e

module _ {m : Memories} {q : Query} {d : Decision} {found : Kind} where
  -- the type that was found is k, and what its function decided is `e`
  pub by_type : {k : Kind} {e : Decision} {records' : List ℕ} → found ≡ k → type_unknown k ≡ false → d ≡ e → Carries k m q records' e
      → Decides from_type found m q records' d
  by_type {k} {e} {records'} is known told carried =
      subst⁻¹ (λ (x : Decision). Decides from_type found m q records' x) told
      (subst⁻¹ (λ (x : Kind). Decides from_type x m q records' e) is
      (record {
        decision = carried.decision ∙ ap (decision_on k (seen_in m q) q) (sym (known_type k (seen_in m q) q known));
        records = carried.records;
      }))

  pub unknown : found ≡ Other → d ≡ alone (Err N3) → Decides from_type found m q m.records d
  unfolding from_type on_type first_of decision_on waited tells_role
  unknown is told =
      subst⁻¹ (λ (x : Decision). Decides from_type found m q m.records x) told
      (subst⁻¹ (λ (x : Kind). Decides from_type x m q m.records (alone (Err N3))) is
      (record { decision = refl; records = keeps_records Other m q (λ r. refl) (Err N3) }))
