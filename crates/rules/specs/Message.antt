-- "Messages": the header, the eight types with their sizes and fields, what a call gets with a message, and which processor a message is
-- about.
use Rattle.std.specs.Prelude.{ℕ, Bool, not, ◌&&◌, ◌||◌, List, [], ◌∷◌, map, length, eqb, leb}
use Rattle.rules.specs.declared.Kind.{Kind}
use Rattle.rules.specs.declared.Kind.TheVariants.{Request, Release, Handover, SetConfig, SetControl, AuthBoot, GetStatus, WaitStatus, Other}
use Rattle.rules.specs.declared.Wait.{Wait}
use Rattle.rules.specs.Table.{◌gives◌, first_of}
use Rattle.rules.specs.Bytes.{byte_at, u16_at, u32_at, has_bit}

-- ---- the header: type u16, host u8, sequence u8, flags u32

abbrev pub type_of : List ℕ → ℕ
type_of m = u16_at m 0

abbrev pub host_of : List ℕ → ℕ
host_of m = byte_at m 2

-- flag bit 1 asks for an answer; other bits are ignored
unfoldable pub answer_asked : List ℕ → Bool
answer_asked m = has_bit 1 (u32_at m 4)

-- ---- the table of types and sizes

-- the type's number; 0, which is no type, for all others
abbrev pub type_number : Kind → ℕ
type_number Request = 0xC000
type_number Release = 0xC001
type_number Handover = 0xC005
type_number SetConfig = 0xC100
type_number SetControl = 0xC101
type_number AuthBoot = 0xC120
type_number GetStatus = 0xC400
type_number WaitStatus = 0xC401
type_number Other = 0

-- the size of the type's structure, with the header. A type that is not in the table has no structure to be shorter than
abbrev pub size_of : Kind → ℕ
size_of Request = 9
size_of Release = 9
size_of Handover = 10
size_of SetConfig = 25
size_of SetControl = 17
size_of AuthBoot = 16
size_of GetStatus = 9
size_of WaitStatus = 29
size_of Other = 0

abbrev pub is_kind : Kind → Kind → Bool
is_kind j k = eqb (type_number j) (type_number k)

abbrev pub kinds : List Kind
kinds = Request ∷ Release ∷ Handover ∷ SetConfig ∷ SetControl ∷ AuthBoot ∷ GetStatus ∷ WaitStatus ∷ []

unfoldable pub kind_of : ℕ → Kind
kind_of type = first_of Other (map (λ (k : Kind). eqb type (type_number k) gives k) kinds)

abbrev pub kind_in : List ℕ → Kind
kind_in m = kind_of (type_of m)

-- ---- the fields after the header, packed, little-endian, in the table's order

abbrev pub processor_of : List ℕ → ℕ
processor_of m = byte_at m 8

abbrev pub new_host_of : List ℕ → ℕ
new_host_of m = byte_at m 9

abbrev pub vector_low_of : List ℕ → ℕ
vector_low_of m = u32_at m 9

abbrev pub vector_high_of : List ℕ → ℕ
vector_high_of m = u32_at m 13

-- the set and clear words stand behind the vector in set config, and in its place in set control
abbrev pub config_set_of : List ℕ → ℕ
config_set_of m = u32_at m 17

abbrev pub config_clear_of : List ℕ → ℕ
config_clear_of m = u32_at m 21

abbrev pub control_set_of : List ℕ → ℕ
control_set_of m = u32_at m 9

abbrev pub control_clear_of : List ℕ → ℕ
control_clear_of m = u32_at m 13

unfoldable pub wait_in : List ℕ → Wait
wait_in m =
    record {
      waits = byte_at m 9;
      matches = byte_at m 10;
      delay = byte_at m 11;
      before = byte_at m 12;
      allset = u32_at m 13;
      anyset = u32_at m 17;
      allclear = u32_at m 21;
      anyclear = u32_at m 25;
    }

-- ---- the answer

-- the bytes of the largest answer, that to get status
abbrev pub largest_answer : ℕ
largest_answer = 29

-- ---- what a message call gets

-- the sender's channel host, the message, the lent status words, the first being the status now, and the "answer room", 01's term: the
-- length of the answer buffer
pub record Query : Type 0 where
  pub channel : ℕ
  pub message : List ℕ
  pub status : List ℕ
  pub room : ℕ

abbrev pub query : ℕ → List ℕ → List ℕ → ℕ → Query
query channel message status room = record { channel = channel; message = message; status = status; room = room }

-- ---- which processor a message is about

-- the types that have a processor field: all but authenticated boot
unfoldable pub names_processor : Kind → Bool
names_processor k = not (is_kind k AuthBoot || is_kind k Other)

-- the processor whose record the call works on: the one that the message's field names
unfoldable pub subject_of : Query → ℕ
subject_of q = processor_of q.message

-- "about", 01's term: the processor that the message's field names. One too short for that field, of another type, or for
-- authenticated boot is about none
unfoldable pub is_about : Query → ℕ → Bool
is_about q p = names_processor (kind_in q.message) && leb 9 (length q.message) && eqb (subject_of q) p
