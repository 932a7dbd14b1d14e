-- "Wait": when a status word matches, the first check that ends a run of `matches` matching words in a row, and what a wait reports.
use Rattle.std.specs.Prelude.{ℕ, zero, suc, ◌+◌, ◌*◌, min, Bool, cond, not, ◌&&◌, ◌||◌, List, length, get_or, eqb, leb}
use Rattle.std.specs.Int.Bits.{bit_and}
use Rattle.rules.specs.declared.Wait.{Wait}

-- all of the mask's bits are 1; some bit is 1 if the mask is not zero; all are 0; some is 0 if the mask is not zero
abbrev pub word_matches : Wait → ℕ → Bool
word_matches w word =
    eqb (bit_and word w.allset) w.allset
    && (eqb w.anyset 0 || not (eqb (bit_and word w.anyset) 0))
    && eqb (bit_and word w.allclear) 0
    && (eqb w.anyclear 0 || not (eqb (bit_and word w.anyclear) w.anyclear))

-- how many matching words in a row the first n checks end with
unfoldable pub run_after : Wait → List ℕ → ℕ → ℕ
run_after w words zero = 0
run_after w words (suc n) = cond (word_matches w (get_or words n 0)) (suc (run_after w words n)) 0

-- check n ends a run of `matches` matching words in a row
unfoldable pub ends_run : Wait → List ℕ → ℕ → Bool
ends_run w words n = leb w.matches (run_after w words n)

-- the first check after check n, of `left` more at most, that ends such a run; 0 where none does
unfoldable pub first_end : Wait → List ℕ → ℕ → ℕ → ℕ
first_end w words n zero = 0
first_end w words n (suc left) =
    let later = first_end w words (suc n) left in
    cond (ends_run w words (suc n)) (suc n) later

-- the words are checked in order, never more than `waits` of them, and none that is not there
unfoldable pub ending_check : Wait → List ℕ → ℕ
ending_check w words = first_end w words 0 (min w.waits (length words))

-- no check ended a run
unfoldable pub ran_out : Wait → List ℕ → Bool
ran_out w words = eqb (ending_check w words) 0

-- the checks made: up to the one that ended the run, or all
unfoldable pub checks_of : Wait → List ℕ → ℕ
checks_of w words = cond (ran_out w words) w.waits (ending_check w words)

-- the microseconds: delay before plus delay per check times checks
unfoldable pub micros_of : Wait → List ℕ → ℕ
micros_of w words = w.before + w.delay * checks_of w words

-- waits and matches at least 1, matches not above waits (document 02, L9: no words end such a wait), and at least one mask not zero
abbrev pub wait_good : Wait → Bool
wait_good w =
    not (eqb w.waits 0)
    && not (eqb w.matches 0)
    && leb w.matches w.waits
    && not (eqb w.allset 0 && eqb w.anyset 0 && eqb w.allclear 0 && eqb w.anyclear 0)
