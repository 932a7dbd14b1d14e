-- One call, from a state that a sequence from the start can leave: what it keeps, and what it gives in two states that agree on the
-- chosen processors.
use Prim.Native.Nat.{ℕ}
use mathlib.Core.Path.{◌≡◌, sym, subst, subst⁻¹, ◌∙◌, ap, ap₂}
use mathlib.Core.Bool.{true, false, not, ◌&&◌}
use mathlib.Core.List.{List}
use mathlib.Core.Logic.{⊎_elim}
use native.Mathlib.Nat.{zero-add}
use lib.ListN.{length}
use lib.Dec.{eqb}
use borrow.Author.Tests.{eqb-true, not-true}
use Rattle.rules.specs.Table.{any_of, all_from}
use Rattle.rules.specs.declared.Record.{Record}
use Rattle.rules.specs.Board.{Board, rows, row_of, on_board, home_at, share_control}
use Rattle.rules.specs.Message.{Query, subject_of, is_about}
use Rattle.rules.specs.Outcome.{View, outcome_of, carried_out}
use Rattle.rules.specs.Effect.{record_after}
use Rattle.rules.specs.Answer.{report_of, answer_of}
use Rattle.rules.specs.State.{listed, Setup, State, own_of, joined, free_own, entry_of, record_in, record_of, view_of, put_in, stored}
use Rattle.rules.specs.Call.{Offer, after_offer, after_message, answer_to, Call, offer, message, next}
use Rattle.rules.specs.Sequence.{permitted_for, free_or_permitted, Sound}
use Rattle.rules.proofs.Tests.{decide, clash, and_right, and_both, or_cases, any_of-member, any_of-find, all_of-member, all_from_at, set-alike}
use Rattle.rules.proofs.Rows.{on_table}
use Rattle.rules.proofs.Rights.{allowed, sender_permitted, carried_about, about_names}
use Rattle.rules.proofs.Sound.{offer_kept, message_refused, stored_other, sound_next}
use Rattle.noninterference.specs.Statement.{sharer_chosen, clusters_whole, insider, about_chosen, picked}

-- a message about a chosen processor works on the record of that one
subject_chosen : (chosen : List ℕ) (q : Query) → about_chosen chosen q ≡ true → any_of (eqb (subject_of q)) chosen ≡ true
unfolding about_chosen
subject_chosen chosen q about =
    let found = any_of-find (is_about q) chosen about in
    subst⁻¹ (λ (p : ℕ). any_of (eqb p) chosen ≡ true) (about_names q found.0 found.2) found.1

-- who shares a control word with a chosen processor is chosen
sharer_chosen_lem : (b : Board) (chosen : List ℕ) → clusters_whole b chosen ≡ true → (p x : ℕ) → any_of (eqb p) chosen ≡ true
    → on_board b x ≡ true → share_control b p x ≡ true → any_of (eqb x) chosen ≡ true
unfolding clusters_whole
sharer_chosen_lem b chosen whole p x chose on shared =
    let passes =
    all_from_at (λ (n row : ℕ). sharer_chosen b chosen p n) b.places 0 x rows
    (all_of-member (λ (r : ℕ). all_from (λ (n row : ℕ). sharer_chosen b chosen r n) 0 b.places) chosen p whole chose)
    (on_table b x on)
    in
    ⊎_elim (λ apart. clash (and_both on shared) (not-true (on_board b x && share_control b p x) apart)) (λ there. there)
    (or_cases (not (on_board b x && share_control b p x)) (any_of (eqb x) chosen)
    (subst (λ (n : ℕ). sharer_chosen b chosen p n ≡ true) (zero-add x) passes))

module _ (setup : Setup) (chosen : List ℕ) (something : listed setup.source ≡ true) (whole : clusters_whole setup.board chosen ≡ true) where
  -- the states that sequences from the start can leave
  pub record Reached (s : State) : Type 0 where
    pub sound : Sound s
    pub same : s.setup ≡ setup

  module _ (s : State) (r : Reached s) where
    is_listed : listed s.setup.source ≡ true
    is_listed = ap (λ (u : Setup). listed u.source) r.same ∙ something

    pub offer_stays : (o : Offer) → after_offer s o ≡ s
    offer_stays o = offer_kept s o is_listed

    pub call_reached : (c : Call) → Reached (next s c)
    unfolding next after_message stored
    call_reached (offer o) = subst⁻¹ Reached (offer_stays o) r
    call_reached (message lent) = record { sound = sound_next s r.sound (message lent); same = r.same }

    -- who has a message about a chosen processor carried out is an insider
    carried_insider : (q : Query) → any_of (eqb (subject_of q)) chosen ≡ true
        → carried_out (outcome_of (view_of s (subject_of q)) q) ≡ true → insider setup chosen q.channel ≡ true
    unfolding insider view_of permitted_for free_or_permitted
    carried_insider q m ok =
        any_of-member _ chosen (subject_of q) m
        (subst (λ (u : Setup). permitted_for u (subject_of q) q.channel ≡ true) r.same
        (sender_permitted (view_of s (subject_of q)) q (r.sound.holder_permitted (subject_of q)) ok))

    -- a message that is carried out and not picked works on no chosen processor
    unpicked_elsewhere : (q : Query) → picked setup chosen q ≡ false → carried_out (outcome_of (view_of s (subject_of q)) q) ≡ true
        → any_of (eqb (subject_of q)) chosen ≡ false
    unfolding picked about_chosen
    unpicked_elsewhere q out ok =
        ⊎_elim
        (λ here.
        clash
        (and_both (carried_insider q here ok)
        (any_of-member (is_about q) chosen (subject_of q) here (carried_about (view_of s (subject_of q)) q ok)))
        out)
        (λ elsewhere. elsewhere)
        (decide (any_of (eqb (subject_of q)) chosen))

    -- a call that is not picked leaves the chosen records: what is their own, and the control words that they share
    pub unpicked_keeps : (q : Query) → picked setup chosen q ≡ false → (p : ℕ) → any_of (eqb p) chosen ≡ true
        → record_of (after_message s q) p ≡ record_of s p
    unfolding after_message view_of share_control
    unpicked_keeps q out p m =
        let b = s.setup.board in
        let x = subject_of q in
        ⊎_elim
        (λ ok.
        let on = (allowed (view_of s x) q ok).onboard in
        let elsewhere = unpicked_elsewhere q out ok in
        let Whole-here = subst⁻¹ (λ (u : Setup). clusters_whole u.board chosen ≡ true) r.same whole in
        let apart : eqb (row_of b p) (row_of b x) ≡ false =
        ⊎_elim (λ same. clash (subst (λ (y : ℕ). any_of (eqb y) chosen ≡ true) (r.sound.board_good.rows_apart p x (eqb-true _ _ same) on) m) elsewhere) (λ f. f)
        (decide (eqb (row_of b p) (row_of b x)))
        in
        let unshared : share_control b p x ≡ false =
        ⊎_elim (λ shared. clash (sharer_chosen_lem b chosen Whole-here p x m on shared) elsewhere) (λ f. f) (decide (share_control b p x))
        in
        stored_other s x (record_after (view_of s x) q) p apart unshared)
        (λ refused. ap (λ (t : State). record_of t p) (message_refused s q refused))
        (decide (carried_out (outcome_of (view_of s x) q)))

    -- no outsider's message about a chosen processor is carried out
    pub outsider_refused_here : (q : Query) → about_chosen chosen q ≡ true → insider setup chosen q.channel ≡ false
        → carried_out (answer_to s q).report.outcome ≡ false
    unfolding answer_to report_of
    outsider_refused_here q about out =
        ⊎_elim (λ ok. clash (carried_insider q (subject_chosen chosen q about) ok) out) (λ refused. refused)
        (decide (carried_out (outcome_of (view_of s (subject_of q)) q)))

  -- ---- two states that agree on the chosen records

  abbrev pub Agree : State → State → Type 0
  Agree s t = (p : ℕ) → any_of (eqb p) chosen ≡ true → record_of s p ≡ record_of t p

  -- the record of p, and that after a message, by the start's board
  record_at_lem : (s : State) → Reached s → (p : ℕ) → record_of s p ≡ record_in setup.board s.records (row_of setup.board p)
  unfolding record_of
  record_at_lem s r p = ap (λ (u : Setup). record_in u.board s.records (row_of u.board p)) r.same

  after-at : (s : State) → Reached s → (q : Query) (p : ℕ)
      → record_of (after_message s q) p
      ≡ record_in setup.board (put_in setup.board s.records (row_of setup.board (subject_of q)) (record_after (view_of s (subject_of q)) q)) (row_of setup.board p)
  unfolding record_of after_message stored
  after-at s r q p =
      ap
      (λ (u : Setup).
      record_in u.board (put_in u.board s.records (row_of u.board (subject_of q)) (record_after (view_of s (subject_of q)) q)) (row_of u.board p))
      r.same

  -- as many rows in both
  same_size : (s t : State) → Reached s → Reached t
      → (length s.records.own ≡ length t.records.own) × (length s.records.controls ≡ length t.records.controls)
  same_size s t rs rt =
      (rs.sound.rows-there ∙ sym rt.sound.rows-there, rs.sound.homes_there ∙ sym rt.sound.homes_there)

  module _ (s t : State) (rs : Reached s) (rt : Reached t) (agree : Agree s t) (q : Query) (pick : picked setup chosen q ≡ true) where
    view_same : view_of s (subject_of q) ≡ view_of t (subject_of q)
    unfolding view_of picked
    view_same =
        let p = subject_of q in
        let m = subject_chosen chosen q (and_right (insider setup chosen q.channel) _ pick) in
        let same : s.setup ≡ t.setup = rs.same ∙ sym rt.same in
        λ i.
        record {
          board = (same i).board;
          listed = listed (same i).source;
          entry = entry_of (same i) p;
          state = agree p m i;
        }

    pub answer_same : answer_to s q ≡ answer_to t q
    unfolding answer_to
    answer_same = ap (λ (v : View). record { report = report_of v q; bytes = answer_of v q }) view_same

    pub agree_after : Agree (after_message s q) (after_message t q)
    unfolding record_in put_in
    agree_after p m =
        let b = setup.board in
        let x = row_of b (subject_of q) in
        let row = row_of b p in
        let after = record_after (view_of t (subject_of q)) q in
        let sizes = same_size s t rs rt in
        let alike = sym (record_at_lem s rs p) ∙ agree p m ∙ record_at_lem t rt p in
        after-at s rs q p
        ∙ ap (λ (v : View). record_in b (put_in b s.records x (record_after v q)) row) view_same
        ∙ ap₂ joined
        (set-alike s.records.own t.records.own x row (own_of after) free_own sizes.0 (ap own_of alike))
        (set-alike s.records.controls t.records.controls (home_at b x) (home_at b row) after.control 0 sizes.1
        (ap (λ (r : Record). r.control) alike))
        ∙ sym (after-at t rt q p)
