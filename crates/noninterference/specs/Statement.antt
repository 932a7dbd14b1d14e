-- "What demand 3 speaks of", and demand 3 as one claim about whole sequences of calls: `Noninterference`. Its theorem is in
-- proofs/Theorem.antt. The rules are those of crate `rules`, for the board in force. Crate traces says the same of the code.
use Rattle.std.specs.Prelude.{ℕ, ◌≡◌, Bool, true, false, cond, not, ◌&&◌, ◌||◌, List, [], ◌∷◌, eqb}
use Rattle.rules.specs.Table.{any_of, all_of, all_from}
use Rattle.rules.specs.Verdict.{accepted}
use Rattle.rules.specs.Board.{Board, on_board, share_control}
use Rattle.rules.specs.Description.{Processor, Description, share_word, board_verdict, description_in, described, ours}
use Rattle.rules.specs.Substructure.{named_in}
use Rattle.rules.specs.AccessList.{parts, has_entry, verdict_of}
use Rattle.rules.specs.Block.{list_part, block_verdict}
use Rattle.rules.specs.Message.{Query, is_about}
use Rattle.rules.specs.Outcome.{carried_out}
use Rattle.rules.specs.State.{listed, list_in, Setup, State, fresh, entry_of, record_of}
use Rattle.rules.specs.Call.{Offer, board, list, block, Answer, answer_to, query_of, Call, offer, message, next}
use Rattle.rules.specs.Sequence.{run, permitted_for, free_or_permitted}

-- number x is no processor of the board that shares its control word with p, or it is chosen
abbrev pub sharer_chosen : Board → List ℕ → ℕ → ℕ → Bool
sharer_chosen b chosen p x = not (on_board b x && share_control b p x) || any_of (eqb x) chosen

-- document 02, L4: the chosen processors "hold a cluster whole or not at all": so it is for each chosen one and each number in the board's table
-- of rows
unfoldable pub clusters_whole : Board → List ℕ → Bool
clusters_whole b chosen = all_of (λ (p : ℕ). all_from (λ (x row : ℕ). sharer_chosen b chosen p x) 0 b.places) chosen

-- the same in the words of a description: each that it lists is chosen where it is of one ARMv8 cluster with a chosen one
unfoldable pub clusters_listed : Description → List ℕ → Bool
clusters_listed d chosen =
    all_of
    (λ (p : ℕ). all_of (λ (x : Processor). not (share_word d p x.number) || any_of (eqb x.number) chosen) d.processors)
    chosen

-- what the start must be: a list was accepted, alone or in a block, every chosen processor has an entry, that is, a used entry of that list's bytes
-- names it, and clusters are chosen whole
pub record Ready (s : State) (chosen : List ℕ) : Type 0 where
  pub something : listed s.setup.source ≡ true
  pub named : all_of (named_in (parts (list_in s.setup.source))) chosen ≡ true
  pub whole : clusters_whole s.setup.board chosen ≡ true

-- an "insider", 01's term: a host permitted for at least one chosen processor. Any other channel byte is an "outsider"
unfoldable pub insider : Setup → List ℕ → ℕ → Bool
insider setup chosen h = any_of (λ (p : ℕ). permitted_for setup p h) chosen

-- the message is about a chosen processor
unfoldable pub about_chosen : List ℕ → Query → Bool
about_chosen chosen q = any_of (is_about q) chosen

-- a message about a chosen processor whose channel host is an insider, whatever the header's host
unfoldable pub picked : Setup → List ℕ → Query → Bool
picked setup chosen q = insider setup chosen q.channel && about_chosen chosen q

-- the picks of a sequence, in order: channel host, message bytes, status words and answer room of each
unfoldable pub picks : Setup → List ℕ → List Call → List Query
picks setup chosen [] = []
picks setup chosen (offer o ∷ cs) = picks setup chosen cs
picks setup chosen (message lent ∷ cs) =
    cond (picked setup chosen (query_of lent)) (query_of lent ∷ picks setup chosen cs) (picks setup chosen cs)

-- the answers to the picks, in order, each given by the rules in the state that the calls before it left
unfoldable pub answers : Setup → List ℕ → State → List Call → List Answer
answers setup chosen s [] = []
answers setup chosen s (offer o ∷ cs) = answers setup chosen (next s (offer o)) cs
answers setup chosen s (message lent ∷ cs) =
    cond (picked setup chosen (query_of lent))
    (answer_to s (query_of lent) ∷ answers setup chosen (next s (message lent)) cs)
    (answers setup chosen (next s (message lent)) cs)

-- demand 3, for a start and the chosen processors, over all sequences of calls from that start, lists, blocks and boards that are offered among them
pub record Noninterference (s : State) (chosen : List ℕ) : Type 0 where
  -- each chosen processor has an entry, so that a host permitted for it is one that its entry names
  pub has_entry_lem : (p : ℕ) → any_of (eqb p) chosen ≡ true → has_entry (entry_of s.setup p) ≡ true
  -- sequences that agree in their picks give them the same answers
  pub same-answers :
      (these those : List Call)
      → picks s.setup chosen these ≡ picks s.setup chosen those
      → answers s.setup chosen s these ≡ answers s.setup chosen s those
  -- and leave the chosen processors the same records, a cluster's control word and the tallies among them
  pub same-records :
      (these those : List Call)
      → picks s.setup chosen these ≡ picks s.setup chosen those
      → (p : ℕ)
      → any_of (eqb p) chosen ≡ true
      → record_of (run s these) p ≡ record_of (run s those) p
  -- each chosen processor is at all times, at the start and after every call, free or held by a permitted host
  pub always-permitted :
      (calls : List Call) (p : ℕ) → any_of (eqb p) chosen ≡ true → free_or_permitted s.setup p (record_of (run s calls) p) ≡ true
  -- no outsider's message about a chosen processor is carried out, whatever came before it
  pub outsider-refused :
      (calls : List Call) (q : Query)
      → about_chosen chosen q ≡ true
      → insider s.setup chosen q.channel ≡ false
      → carried_out (answer_to (run s calls) q).report.outcome ≡ false

-- from every state that calls left and that is such a start. Until a description is taken document 01's board stands, and those calls may take any
abbrev pub FromEveryStart : Type 0
FromEveryStart =
    (before : List Call) (chosen : List ℕ) → Ready (run (fresh ours) before) chosen → Noninterference (run (fresh ours) before) chosen

-- the list that an offer puts in force: the lone list, or that of a block (document 02, L1)
unfoldable pub list_of : Offer → List ℕ
list_of (board bytes) = []
list_of (list bytes) = bytes
list_of (block major minor bytes) = list_part bytes

-- a list or a block that a board accepts
unfoldable pub loads : Board → Offer → Bool
loads b (board bytes) = false
loads b (list bytes) = accepted (verdict_of b false bytes)
loads b (block major minor bytes) = accepted (block_verdict b false major minor bytes)

-- the state that an accepted list or block leaves on document 01's board is one
abbrev pub FreshlyLoaded : Type 0
FreshlyLoaded =
    (o : Offer) (chosen : List ℕ)
    → loads ours o ≡ true
    → all_of (named_in (parts (list_of o))) chosen ≡ true
    → clusters_whole ours chosen ≡ true
    → Noninterference (run (fresh ours) (offer o ∷ [])) chosen

-- and so is, for every accepted description, the one that a list or a block leaves which its board accepts
abbrev pub ForEveryDescription : Type 0
ForEveryDescription =
    (description : List ℕ) (o : Offer) (chosen : List ℕ)
    → accepted (board_verdict false description) ≡ true
    → loads (described description) o ≡ true
    → all_of (named_in (parts (list_of o))) chosen ≡ true
    → clusters_listed (description_in description) chosen ≡ true
    → Noninterference (run (fresh ours) (offer (board description) ∷ offer o ∷ [])) chosen

-- the board that calls before the first accepted list or block leave in force: that of the last accepted description
unfoldable pub board_left : Board → List Call → Board
board_left b [] = b
board_left b (offer (board bytes) ∷ cs) = board_left (cond (accepted (board_verdict false bytes)) (described bytes) b) cs
board_left b (offer (list bytes) ∷ cs) = board_left b cs
board_left b (offer (block major minor bytes) ∷ cs) = board_left b cs
board_left b (message lent ∷ cs) = board_left b cs

-- they leave nothing else, so that start depends on that board and on the list or block alone
abbrev pub NoTrace : Type 0
NoTrace =
    (calls : List Call)
    → listed (run (fresh ours) calls).setup.source ≡ false
    → run (fresh ours) calls ≡ fresh (board_left ours calls)
