-- A block (document 02, L1): an accepted one has a good list, which is then in force as the lone list would be, and a hierarchy in which following
-- supervisors ends; B8 comes where a loop is, and its host is the first in entry order that lies on one.
use Prim.Native.Nat.{ℕ, ◌<◌}
use mathlib.Core.Path.{◌≡◌, refl, sym, subst, ◌∙◌, ap}
use mathlib.Core.Bool.{Bool, true, false, not, ◌&&◌}
use mathlib.Core.List.{List, [], ◌∷◌, ◌++◌}
use native.Mathlib.Omega.{arith}
use mathlib.Core.Logic.{⊎_elim}
use lib.ListN.{length, drop, length-drop}
use lib.Seq.{length-take-le}
use lib.Dec.{eqb, lit<}
use borrow.Author.Tests.{eqb-true, eq-eqb, ne_eqb, not-true, not-false}
use Rattle.std.specs.Prelude.{Ok, Err}
use Rattle.rules.specs.declared.Fault.TheVariants.{A1, A3, A4, A5, A6, A7, A8, B1, B2, B3, B4, B5, B6, B7, B8}
use Rattle.rules.specs.Table.{Line, ◌gives◌, first_of}
use Rattle.rules.specs.Bytes.{byte_at}
use Rattle.rules.specs.Verdict.{Verdict, Accepted, verdict_number, reported_host, accepted}
use Rattle.rules.specs.Board.{Board}
use Rattle.rules.specs.Substructure.{in_turn}
use Rattle.rules.specs.AccessList.{entry_table, content_table, list_table, verdict_of, parts}
use Rattle.rules.specs.Hierarchy.{pairs, loop_host, pair_table, hierarchy_table, Ends, FirstOnLoop}
use Rattle.rules.specs.Block.{list_part, hierarchy_part, otp_part, abi_good, otp_table, block_table, block_verdict}
use Rattle.rules.proofs.Tests.{decide, clash, cond-true, cond-false, and_left, and_right, first_of-append, cleared, passed, none_good, none_append, none_falls}
use Rattle.rules.proofs.Hierarchy.{none_ends, reported_first}

-- ---- lines that give no good answer, where neither of A1 to A8 nor of B1 to B7 is one

module _ (good : Verdict → Bool) (off : (v : Verdict) → 0 < verdict_number v → verdict_number v < 108 → good v ≡ false) where
  -- each entry in turn
  turn-none : (lines : List (List ℕ) → List ℕ → List (Line Verdict))
      → ((earlier : List (List ℕ)) (part : List ℕ) → none_good good (lines earlier part) ≡ true)
      → (earlier rest : List (List ℕ)) → none_good good (in_turn lines earlier rest) ≡ true
  unfolding in_turn none_good
  turn-none lines each earlier [] = refl
  turn-none lines each earlier (part ∷ rest) =
      none_append good (lines earlier part) (in_turn lines (part ∷ earlier) rest) (each earlier part) (turn-none lines each (part ∷ earlier) rest)

  entry_none : (b : Board) (earlier : List (List ℕ)) (part : List ℕ) → none_good good (entry_table b earlier part) ≡ true
  unfolding entry_table none_good
  entry_none b earlier part =
      rw (off (Err A5) (lit< tt) (lit< tt), off (Err A6) (lit< tt) (lit< tt), off (Err A7) (lit< tt) (lit< tt), off (Err A8) (lit< tt) (lit< tt))

  pub content-none : (b : Board) (list : List ℕ) → none_good good (content_table b list) ≡ true
  unfolding content_table none_good
  content-none b list =
      rw (off (Err A3) (lit< tt) (lit< tt), off (Err A4) (lit< tt) (lit< tt)) (turn-none (entry_table b) (entry_none b) [] (parts list))

  pub pair_none : (b : Board) (earlier : List (List ℕ)) (pair : List ℕ) → none_good good (pair_table b earlier pair) ≡ true
  unfolding pair_table none_good
  pair_none b earlier pair = rw (off (Err B5) (lit< tt) (lit< tt), off (Err B6) (lit< tt) (lit< tt), off (Err B7) (lit< tt) (lit< tt))

  pub pairs-none : (b : Board) (earlier rest : List (List ℕ)) → none_good good (in_turn (pair_table b) earlier rest) ≡ true
  pairs-none b earlier rest = turn-none (pair_table b) (pair_none b) earlier rest

-- `Accepted` and B8 are such answers
pub refused_number : (v : Verdict) → 0 < verdict_number v → verdict_number v < 108 → accepted v ≡ false
unfolding accepted
refused_number (Ok _) some high = absurd (omega (arith, some))
refused_number (Err fault) some high = refl

abbrev pub is_B8 : Verdict → Bool
is_B8 v = eqb (verdict_number v) 108

pub B8-number : (v : Verdict) → 0 < verdict_number v → verdict_number v < 108 → is_B8 v ≡ false
B8-number v some high = ne_eqb (verdict_number v) 108 (λ e. omega (arith, e))

-- and so is B8 with one host
abbrev pub reports : ℕ → Verdict → Bool
reports h v = is_B8 v && eqb (reported_host v) h

reports-number : (h : ℕ) (v : Verdict) → 0 < verdict_number v → verdict_number v < 108 → reports h v ≡ false
reports-number h v some high = rw (B8-number v some high)

-- no line of a hierarchy accepts
pub hierarchy-none : (b : Board) (bytes : List ℕ) → none_good accepted (hierarchy_table b bytes) ≡ true
unfolding hierarchy_table none_good accepted
hierarchy-none b bytes =
    none_append accepted (in_turn (pair_table b) [] (pairs bytes)) ((not (eqb (loop_host (pairs bytes)) 0) gives Err (B8 (loop_host (pairs bytes)))) ∷ [])
    (pairs-none accepted refused_number b [] (pairs bytes)) refl

-- ---- the list of a block

pub list_length : (bytes : List ℕ) → length bytes ≡ 431 → length (list_part bytes) ≡ 292
list_length bytes size =
    let left = length-drop 2 bytes in length-take-le 292 (drop 2 bytes) (omega arith)

-- of a list of the right length, with none accepted before, the content is judged
pub alone-content : (b : Board) (list : List ℕ) → length list ≡ 292 → verdict_of b false list ≡ first_of Accepted (content_table b list)
unfolding verdict_of list_table first_of
alone-content b list size = rw (eq-eqb (length list) 292 size)

-- ---- the lines in turn, where a block comes to a good answer that is neither of A1 to A8 nor of B1 to B7

module _ (good : Verdict → Bool) (off : (v : Verdict) → 0 < verdict_number v → verdict_number v < 108 → good v ≡ false) (b : Board) (listed : Bool)
    (major minor : ℕ) (bytes : List ℕ) (comes : good (block_verdict b listed major minor bytes) ≡ true) where
  abbrev part : List ℕ
  part = hierarchy_part bytes

  abbrev turns : List (Line Verdict)
  turns = in_turn (pair_table b) [] (pairs part)

  abbrev loop_line : List (Line Verdict)
  loop_line = (not (eqb (loop_host (pairs part)) 0) gives Err (B8 (loop_host (pairs part)))) ∷ []

  abbrev content : List (Line Verdict)
  content = content_table b (list_part bytes)

  abbrev behind : List (Line Verdict)
  behind = hierarchy_table b part ++ otp_table (otp_part bytes)

  -- A1, B1 and B2 are passed
  past_first : (listed ≡ false) × (length bytes ≡ 431) × (abi_good major minor bytes ≡ true) × (good (first_of Accepted (content ++ behind)) ≡ true)
  unfolding block_verdict block_table
  past_first =
      let a1 = passed good Accepted _ _ _ (off (Err A1) (lit< tt) (lit< tt)) comes in
      let b1 = passed good Accepted _ _ _ (off (Err B1) (lit< tt) (lit< tt)) a1 in (
        cleared good Accepted _ _ _ (off (Err A1) (lit< tt) (lit< tt)) comes,
        eqb-true (length bytes) 431
            (not-false (eqb (length bytes) 431) (cleared good Accepted _ _ _ (off (Err B1) (lit< tt) (lit< tt)) a1)),
        not-false (abi_good major minor bytes) (cleared good Accepted _ _ _ (off (Err B2) (lit< tt) (lit< tt)) b1),
        passed good Accepted _ _ _ (off (Err B2) (lit< tt) (lit< tt)) b1,
      )

  -- so are the list's lines
  content-falls : (v : Verdict) → first_of v content ≡ v
  content-falls v =
      none_falls good (first_of Accepted behind) v content (content-none good off b (list_part bytes))
      (subst (λ (w : Verdict). good w ≡ true) (first_of-append Accepted content behind) past_first.3)

  past_content : good (first_of Accepted behind) ≡ true
  past_content =
      subst (λ (w : Verdict). good w ≡ true)
      (first_of-append Accepted content behind ∙ content-falls (first_of Accepted behind))
      past_first.3

  -- and the hierarchy's up to the loop
  past_pairs : good (first_of Accepted (loop_line ++ otp_table (otp_part bytes))) ≡ true
  unfolding hierarchy_table
  past_pairs =
      let b3 = passed good Accepted _ _ _ (off (Err B3) (lit< tt) (lit< tt)) past_content in
      let b4 = passed good Accepted _ _ _ (off (Err B4) (lit< tt) (lit< tt)) b3 in
      let rest = first_of (first_of Accepted (otp_table (otp_part bytes))) loop_line in
      let split : first_of Accepted ((turns ++ loop_line) ++ otp_table (otp_part bytes)) ≡ first_of rest turns =
      first_of-append Accepted (turns ++ loop_line) (otp_table (otp_part bytes))
      ∙ first_of-append (first_of Accepted (otp_table (otp_part bytes))) turns loop_line
      in
      let here : good (first_of rest turns) ≡ true = subst (λ (w : Verdict). good w ≡ true) split b4 in
      subst (λ (w : Verdict). good w ≡ true)
      (none_falls good rest rest turns (pairs-none good off b [] (pairs part)) here ∙ sym (first_of-append Accepted loop_line (otp_table (otp_part bytes))))
      here

-- ---- an accepted block

pub record GoodBlock (b : Board) (listed : Bool) (bytes : List ℕ) : Type 0 where
  pub nothing_before : listed ≡ false
  pub size : length bytes ≡ 431
  pub own_bytes : accepted (block_verdict b false (byte_at bytes 0) (byte_at bytes 1) bytes) ≡ true
  pub list_good : accepted (verdict_of b false (list_part bytes)) ≡ true
  pub no_loop : loop_host (pairs (hierarchy_part bytes)) ≡ 0

-- with the ABI bytes that it has
own_accepted : (b : Board) (listed : Bool) (major minor : ℕ) (bytes : List ℕ) → listed ≡ false → abi_good major minor bytes ≡ true
    → accepted (block_verdict b listed major minor bytes) ≡ true → accepted (block_verdict b false (byte_at bytes 0) (byte_at bytes 1) bytes) ≡ true
own_accepted b listed major minor bytes none abi ok =
    let first = eqb-true (byte_at bytes 0) major (and_left (eqb (byte_at bytes 0) major) (eqb (byte_at bytes 1) minor) abi) in
    let second = eqb-true (byte_at bytes 1) minor (and_right (eqb (byte_at bytes 0) major) (eqb (byte_at bytes 1) minor) abi) in
    ap (λ (x : Bool). accepted (block_verdict b x (byte_at bytes 0) (byte_at bytes 1) bytes)) (sym none)
    ∙ ap (λ (x : ℕ). accepted (block_verdict b listed x (byte_at bytes 1) bytes)) first
    ∙ ap (λ (x : ℕ). accepted (block_verdict b listed major x bytes)) second
    ∙ ok

pub good_block : (b : Board) (listed : Bool) (major minor : ℕ) (bytes : List ℕ)
    → accepted (block_verdict b listed major minor bytes) ≡ true → GoodBlock b listed bytes
unfolding accepted
good_block b listed major minor bytes ok =
    let first = past_first accepted refused_number b listed major minor bytes ok in
    let found = cleared accepted Accepted _ _ _ refl (past_pairs accepted refused_number b listed major minor bytes ok) in
    record {
      nothing_before = first.0;
      size = first.1;
      own_bytes = own_accepted b listed major minor bytes first.0 first.2 ok;
      list_good =
          ap accepted
          (alone-content b (list_part bytes) (list_length bytes first.1)
          ∙ content-falls accepted refused_number b listed major minor bytes ok Accepted);
      no_loop = eqb-true (loop_host (pairs (hierarchy_part bytes))) 0 (not-false (eqb (loop_host (pairs (hierarchy_part bytes))) 0) found);
    }

-- in its hierarchy following supervisors ends, from every host
pub accepted-ends : (b : Board) (listed : Bool) (major minor : ℕ) (bytes : List ℕ)
    → accepted (block_verdict b listed major minor bytes) ≡ true → (h : ℕ) → Ends (pairs (hierarchy_part bytes)) h
accepted-ends b listed major minor bytes ok h =
    none_ends (pairs (hierarchy_part bytes)) (good_block b listed major minor bytes ok).no_loop h

-- ---- B8

-- the OTP part gives no B8
otp-none : (h : ℕ) (bytes : List ℕ) → none_good (reports h) (otp_table bytes) ≡ true
unfolding otp_table none_good
otp-none h bytes = refl

-- it comes only where a loop is, and the host that it reports is the first in entry order that lies on one
pub B8-first : (b : Board) (listed : Bool) (major minor : ℕ) (bytes : List ℕ) {h : ℕ}
    → block_verdict b listed major minor bytes ≡ Err (B8 h)
    → FirstOnLoop (pairs (hierarchy_part bytes)) h
unfolding first_of
B8-first b listed major minor bytes {h} is =
    let entries = pairs (hierarchy_part bytes) in
    let otp = otp_table (otp_part bytes) in
    let below = past_pairs (reports h) (reports-number h) b listed major minor bytes (ap (reports h) is ∙ eq-eqb h h refl) in
    let loops : eqb (loop_host entries) 0 ≡ false = not-true (eqb (loop_host entries) 0) (⊎_elim (λ there. there)
    (λ none.
    let b9 = rw (cond-false (Err (B8 (loop_host entries))) (first_of Accepted otp) none) at below in
    clash b9 (ap (reports h) (none_falls (reports h) Accepted Accepted otp (otp-none h (otp_part bytes)) b9)))
    (decide (not (eqb (loop_host entries) 0)))) in
    let told : eqb (loop_host entries) h ≡ true =
    rw (cond-true (Err (B8 (loop_host entries))) (first_of Accepted otp) (ap not loops)) at below in
    subst (FirstOnLoop entries) (eqb-true (loop_host entries) h told)
    (reported_first entries (λ none. clash (eq-eqb (loop_host entries) 0 none) loops))
