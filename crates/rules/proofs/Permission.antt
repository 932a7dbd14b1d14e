-- What document 01 asks for comes out the same over the role (document 02, L5): who is permitted, who is the recovery master, and who may
-- request; and the role by cases, in the order in which the code tests them.
use Prim.Native.Nat.{ℕ}
use mathlib.Core.Path.{◌≡◌, refl, sym, ◌∙◌}
use mathlib.Core.Bool.{Bool, true, false, cond, not, ◌&&◌, ◌||◌, and-false}
use mathlib.Core.List.{[], ◌∷◌}
use mathlib.Core.Logic.{⊎_elim}
use lib.Dec.{eqb}
use borrow.Author.Tests.{eqb-true, eq-eqb, ne_eqb}
use Rattle.std.specs.Prelude.{Option, None, Some}
use Rattle.rules.specs.declared.Record.{Record}
use Rattle.rules.specs.declared.Role.{Role}
use Rattle.rules.specs.declared.Role.TheVariants.{Master, Secondary0, Secondary1, Secondary2, Open}
use Rattle.rules.specs.Table.{◌gives◌, first_of}
use Rattle.rules.specs.Board.{Board, active_host}
use Rattle.rules.specs.AccessList.{Entry, has_entry, master_by01, secondary_by01, permitted_by01}
use Rattle.rules.specs.Role.{names_host, role_table, role_of, is_master, permits, permitted}
use Rattle.rules.specs.Outcome.{is_free, may_request}
use Rattle.rules.proofs.Tests.{decide, clash}

-- a used secondary that is the host, and a host other than 0 that is the secondary
names-used : (s h : ℕ) → names_host s h ≡ (not (eqb h 0) && eqb s h)
unfolding names_host
names-used s h =
    ⊎_elim
    (λ (same : eqb s h ≡ true). let is : s ≡ h = eqb-true s h same in rw is)
    (λ (other : eqb s h ≡ false). rw other (and-false (not (eqb s 0)) ∙ sym (and-false (not (eqb h 0)))))
    (decide (eqb s h))

-- the role by plain tests: an entry, its master, its three places, and a board host but 0
abbrev by_tests : Bool → Bool → Bool → Bool → Bool → Bool → Option Role
by_tests entry master first second third active =
    cond entry
    (first_of None ((master gives Some Master) ∷ (first gives Some Secondary0) ∷ (second gives Some Secondary1) ∷ (third gives Some Secondary2) ∷ []))
    (cond active (Some Open) None)

permits-by : (entry master used first second third active : Bool)
    → permits (by_tests entry master (used && first) (used && second) (used && third) active)
    ≡ cond entry ((entry && master) || (used && (first || second || third))) active
unfolding first_of
permits-by false m u f s t true = refl
permits-by false m u f s t false = refl
permits-by true true u f s t a = refl
permits-by true false false f s t a = refl
permits-by true false true true s t a = refl
permits-by true false true false true t a = refl
permits-by true false true false false true a = refl
permits-by true false true false false false a = refl

master_by : (entry master first second third active : Bool) → is_master (by_tests entry master first second third active) ≡ (entry && master)
unfolding first_of
master_by false m f s t true = refl
master_by false m f s t false = refl
master_by true true f s t a = refl
master_by true false true s t a = refl
master_by true false false true t a = refl
master_by true false false false true a = refl
master_by true false false false false a = refl

module _ (b : Board) (e : Entry) (h : ℕ) where
  pub permitted-same : permitted b e h ≡ permitted_by01 b e h
  unfolding permitted role_of role_table permitted_by01 master_by01 secondary_by01
  permitted-same =
      rw (names-used e.first h, names-used e.second h, names-used e.third h)
      (permits-by (has_entry e) (eqb e.master h) (not (eqb h 0)) (eqb e.first h) (eqb e.second h) (eqb e.third h) (active_host b h))

  pub master_same : is_master (role_of b e h) ≡ master_by01 e h
  unfolding role_of role_table master_by01
  master_same = master_by (has_entry e) (eqb e.master h) (names_host e.first h) (names_host e.second h) (names_host e.third h) (active_host b h)

  -- the right of a request, in document 01's words
  pub request-same : (r : Record) → may_request (role_of b e h) r ≡ (is_free r && permitted_by01 b e h || master_by01 e h)
  unfolding permitted
  request-same r = rw (sym permitted-same, sym master_same)

-- a role that does not permit is none
none_by : (role : Option Role) → permits role ≡ false → role ≡ None
none_by None is = refl
none_by (Some _) is = clash {x = true} refl is

-- the recovery master is permitted
pub master_permits : (role : Option Role) → is_master role ≡ true → permits role ≡ true
master_permits None is = is
master_permits (Some _) is = refl

-- ---- the role by tests in the order of the code

-- neither an entry nor an open processor permits host 0
zero_by : (none : Bool) → cond (not none) ((not none && none) || false) false ≡ false
zero_by true = refl
zero_by false = refl

names-host : (s h : ℕ) → (h ≡ 0 → ⊥) → s ≡ h → names_host s h ≡ true
names-host s h active is = names-used s h ∙ rw (ne_eqb h 0 active) (eq-eqb s h is)

names-other : (s h : ℕ) → (s ≡ h → ⊥) → names_host s h ≡ false
names-other s h other = names-used s h ∙ rw (ne_eqb s h other) (and-false (not (eqb h 0)))

module _ (b : Board) (e : Entry) (h : ℕ) where
  -- host 0 has no role
  pub role_zero : h ≡ 0 → role_of b e h ≡ None
  unfolding permitted permitted_by01 master_by01 secondary_by01 has_entry active_host
  role_zero zero = none_by (role_of b e h) (permitted-same b e h ∙ rw zero (zero_by (eqb e.master 0)))

  pub role_master : (h ≡ 0 → ⊥) → e.master ≡ h → role_of b e h ≡ (Some Master)
  unfolding role_of role_table first_of has_entry
  role_master active is = rw (is, ne_eqb h 0 active, eq-eqb h h refl)

  pub role_open : e.master ≡ 0 → role_of b e h ≡ cond (active_host b h) (Some Open) None
  unfolding role_of has_entry
  role_open none = rw none

  module _ (active : h ≡ 0 → ⊥) (entry : e.master ≡ 0 → ⊥) (other : e.master ≡ h → ⊥) where
    pub role_first : e.first ≡ h → role_of b e h ≡ (Some Secondary0)
    unfolding role_of role_table first_of has_entry
    role_first is = rw (ne_eqb _ 0 entry, ne_eqb _ h other, names-host e.first h active is)

    module _ (not_first : e.first ≡ h → ⊥) where
      pub role-second : e.second ≡ h → role_of b e h ≡ (Some Secondary1)
      unfolding role_of role_table first_of has_entry
      role-second is = rw (ne_eqb _ 0 entry, ne_eqb _ h other, names-other e.first h not_first, names-host e.second h active is)

      module _ (not-second : e.second ≡ h → ⊥) where
        pub role-third : e.third ≡ h → role_of b e h ≡ (Some Secondary2)
        unfolding role_of role_table first_of has_entry
        role-third is =
            rw (
              ne_eqb _ 0 entry,
              ne_eqb _ h other,
              names-other e.first h not_first,
              names-other e.second h not-second,
              names-host e.third h active is,
            )

        pub role-none : (e.third ≡ h → ⊥) → role_of b e h ≡ None
        unfolding role_of role_table first_of has_entry
        role-none not_third =
            rw (
              ne_eqb _ 0 entry,
              ne_eqb _ h other,
              names-other e.first h not_first,
              names-other e.second h not-second,
              names-other e.third h not_third,
            )
