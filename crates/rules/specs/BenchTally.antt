-- Document 02, L10, on the bench: worked cases of the tallies, as two tables. `proofs/Bench.antt` checks them.
use Rattle.std.specs.Prelude.{ℕ, List, [], ◌∷◌, ◌++◌, replicate, Err}
use Rattle.rules.specs.Outcome.{Outcome, OK}
use Rattle.rules.specs.declared.Refusal.TheVariants.{N7, N8}
use Rattle.rules.specs.declared.Tallies.{Tallies}
use Rattle.rules.specs.Description.{ours}
use Rattle.rules.specs.Tally.{grants, overrides, handovers, releases, no_tallies}
use Rattle.rules.specs.State.{State, fresh, record_of, stored}
use Rattle.rules.specs.Call.{list, block, answer_to, Lent, query_of, Call, offer, message, next}
use Rattle.rules.specs.Sequence.{run}
use Rattle.rules.specs.Warranty.{count_of}
use Rattle.rules.specs.Bench.{header, loaded, bench_list}
use Rattle.rules.specs.BenchCluster.{cluster_list, request, release, handover, set_control}
use Rattle.rules.specs.BenchRole.{sent_by}
use Rattle.rules.specs.BenchBlock.{bench_block}

abbrev pub tallies : ℕ → ℕ → ℕ → ℕ → Tallies
tallies granted overridden handed released =
    record { grants = granted; overrides = overridden; handovers = handed; releases = released }

-- ---- one message

-- each row has the host that holds processor 1, 0 for none, and its tallies; a message; and the outcome and the tallies after it. The bench's list
-- is in force: of processor 1 host 3 is the recovery master and host 5 a secondary
pub record TallyCase : Type 0 where
  pub holder : ℕ
  pub before : Tallies
  pub call : Lent
  pub outcome : Outcome
  pub after : Tallies

abbrev pub case : ℕ → Tallies → Lent → Outcome → Tallies → TallyCase
case holder before call outcome after =
    record { holder = holder; before = before; call = call; outcome = outcome; after = after }

-- the state of a case, and what of it the table shows
unfoldable pub held_from : ℕ → Tallies → State
held_from holder before =
    stored (run (fresh ours) loaded) 1
    (record { controller = holder; low = 0; high = 0; config = 0; control = 0; tallies = before })

unfoldable pub tallied_in : State → Lent → Outcome × Tallies
tallied_in s lent = ((answer_to s (query_of lent)).report.outcome, (record_of (next s (message lent)) 1).tallies)

-- messages about processor 1
abbrev pub requests : ℕ → Lent
requests host = sent_by host 0x00 0xC0 (1 ∷ []) []

abbrev pub gives_back : ℕ → Lent
gives_back host = sent_by host 0x01 0xC0 (1 ∷ []) []

abbrev pub hands_to : ℕ → ℕ → Lent
hands_to host newHost = sent_by host 0x05 0xC0 (1 ∷ newHost ∷ []) []

-- the same message with flag bit 1 clear, so that no answer is written
abbrev pub unanswered : ℕ → ℕ → ℕ → List ℕ → Lent
unanswered host low high fields =
    record { channel = host; message = header low high host 0 ++ fields; status = []; buffer = replicate 29 0 }

unfoldable pub tallied : List TallyCase
tallied =
    -- requests granted while free, the recovery master's too
    case 0 no_tallies (requests 5) OK (tallies 1 0 0 0)
    ∷ case 0 no_tallies (requests 3) OK (tallies 1 0 0 0)
    ∷ case 0 (tallies 7 5 6 7) (unanswered 5 0x00 0xC0 (1 ∷ [])) OK (tallies 8 5 6 7)
    -- an override that took it from another host is neither a grant nor a release
    ∷ case 5 (tallies 1 0 0 0) (requests 3) OK (tallies 1 1 0 0)
    ∷ case 5 (tallies 8 5 6 7) (unanswered 3 0x00 0xC0 (1 ∷ [])) OK (tallies 8 6 6 7)
    -- the recovery master that requests what it holds counts nowhere
    ∷ case 3 (tallies 1 1 0 0) (requests 3) OK (tallies 1 1 0 0)
    -- a handover to another host, and one to oneself, which counts nowhere
    ∷ case 3 (tallies 1 0 0 0) (hands_to 3 5) OK (tallies 1 0 1 0)
    ∷ case 5 (tallies 1 0 1 0) (unanswered 5 0x05 0xC0 (1 ∷ 3 ∷ [])) OK (tallies 1 0 2 0)
    ∷ case 3 (tallies 1 0 0 0) (hands_to 3 3) OK (tallies 1 0 0 0)
    ∷ case 5 (tallies 1 0 0 0) (hands_to 5 5) OK (tallies 1 0 0 0)
    -- a release
    ∷ case 3 (tallies 1 0 0 0) (gives_back 3) OK (tallies 1 0 0 1)
    ∷ case 5 (tallies 8 5 6 7) (unanswered 5 0x01 0xC0 (1 ∷ [])) OK (tallies 8 5 6 8)
    -- what is refused counts nowhere
    ∷ case 3 (tallies 1 0 0 0) (requests 5) (Err N7) (tallies 1 0 0 0)
    ∷ case 5 (tallies 1 0 0 0) (requests 5) (Err N7) (tallies 1 0 0 0)
    ∷ case 0 no_tallies (requests 6) (Err N7) no_tallies
    ∷ case 5 (tallies 1 0 0 0) (hands_to 3 5) (Err N7) (tallies 1 0 0 0)
    ∷ case 3 (tallies 1 0 0 0) (hands_to 3 6) (Err N8) (tallies 1 0 0 0)
    ∷ case 5 (tallies 1 0 0 0) (gives_back 3) (Err N7) (tallies 1 0 0 0)
    ∷ case 0 (tallies 1 0 0 1) (gives_back 3) (Err N7) (tallies 1 0 0 1)
    -- nor do the other types
    ∷ case 3 (tallies 1 0 0 0) (sent_by 3 0x00 0xC1 (1 ∷ replicate 16 0) []) OK (tallies 1 0 0 0)
    ∷ case 3 (tallies 1 0 0 0) (sent_by 3 0x01 0xC1 (1 ∷ replicate 8 0) []) OK (tallies 1 0 0 0)
    ∷ case 3 (tallies 1 0 0 0) (sent_by 3 0x00 0xC4 (1 ∷ []) (9 ∷ [])) OK (tallies 1 0 0 0)
    ∷ case 3 (tallies 1 0 0 0) (sent_by 3 0x01 0xC4 ((1 ∷ 1 ∷ 1 ∷ 0 ∷ 0 ∷ []) ++ (1 ∷ replicate 15 0)) (1 ∷ [])) OK (tallies 1 0 0 0)
    -- each comes to 4,294,967,295 and stays there
    ∷ case 0 (tallies 4294967294 2 3 4) (requests 5) OK (tallies 4294967295 2 3 4)
    ∷ case 0 (tallies 4294967295 2 3 4) (requests 5) OK (tallies 4294967295 2 3 4)
    ∷ case 5 (tallies 1 4294967294 3 4) (requests 3) OK (tallies 1 4294967295 3 4)
    ∷ case 5 (tallies 1 4294967295 3 4) (requests 3) OK (tallies 1 4294967295 3 4)
    ∷ case 3 (tallies 1 2 4294967294 4) (hands_to 3 5) OK (tallies 1 2 4294967295 4)
    ∷ case 3 (tallies 1 2 4294967295 4) (hands_to 3 5) OK (tallies 1 2 4294967295 4)
    ∷ case 3 (tallies 1 2 3 4294967294) (gives_back 3) OK (tallies 1 2 3 4294967295)
    ∷ case 3 (tallies 1 2 3 4294967295) (gives_back 3) OK (tallies 1 2 3 4294967295)
    ∷ []

-- ---- sequences

-- each row has the calls, from a fresh manager; a processor; and its tallies afterwards, which are also the counts that are worked out from the calls
pub record CountCase : Type 0 where
  pub calls : List Call
  pub processor : ℕ
  pub left : Tallies

abbrev pub leaving : List Call → ℕ → Tallies → CountCase
leaving calls p left = record { calls = calls; processor = p; left = left }

unfoldable pub worked_out : ℕ → State → List Call → Tallies
worked_out p s calls =
    tallies (count_of grants p s calls) (count_of overrides p s calls) (count_of handovers p s calls) (count_of releases p s calls)

unfoldable pub counted_in : State → CountCase → Tallies × Tallies
counted_in s c = ((record_of (run s c.calls) c.processor).tallies, worked_out c.processor s c.calls)

-- a request, an override, a handover, one to oneself, a release and a second one, which is refused
abbrev pub one_of_each : List Call
one_of_each =
    request 5 1
    ∷ request 3 1
    ∷ request 3 1
    ∷ handover 3 1 5
    ∷ handover 5 1 5
    ∷ release 5 1
    ∷ release 5 1
    ∷ []

-- host 10 controls 32, and takes 33 from host 12
abbrev pub on_the_cluster : List Call
on_the_cluster =
    offer (list cluster_list) ∷ request 10 32 ∷ request 12 33 ∷ set_control 10 32 0x3 0 ∷ request 10 33 ∷ []

unfoldable pub totalled : List CountCase
totalled =
    leaving (offer (list bench_list) ∷ one_of_each) 1 (tallies 1 1 1 1)
    ∷ leaving (offer (block 0 1 bench_block) ∷ one_of_each) 1 (tallies 1 1 1 1)
    ∷ leaving (offer (list bench_list) ∷ one_of_each ++ one_of_each) 1 (tallies 2 2 2 2)
    -- messages before the list are refused, and so is a second list
    ∷ leaving (one_of_each ++ (offer (list bench_list) ∷ [])) 1 no_tallies
    ∷ leaving ((offer (list bench_list) ∷ one_of_each) ++ (offer (list bench_list) ∷ request 3 1 ∷ [])) 1 (tallies 2 1 1 1)
    -- each processor has its own, also in a cluster
    ∷ leaving (offer (list bench_list) ∷ one_of_each ++ (request 10 2 ∷ [])) 2 (tallies 1 0 0 0)
    ∷ leaving on_the_cluster 32 (tallies 1 0 0 0)
    ∷ leaving on_the_cluster 33 (tallies 1 1 0 0)
    ∷ []
