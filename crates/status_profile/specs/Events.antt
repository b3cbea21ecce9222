-- A word and exactly its values; `reopen` splits events into stretches.
use Rattle.std.specs.Prelude.{ℕ, Bool, false, List, [], ◌∷◌, ◌++◌, map, codes, Vec, Option, Some, None, option_map, if◌then◌else◌}
use Rattle.std.specs.Str.{bytes_eq}
use Rattle.std.specs.declared.alloc.Global.{Global}
use Rattle.bstr.specs.Owned.{bstring_bytes}
use Rattle.serde_json.specs.Data.{Data, Items, no_items, item}
use Rattle.serde_json.specs.Find.{as_array, as_bool, as_str}
use Rattle.status_index.specs.declared.stat.Moment.{Moment}
use Rattle.status_compare.specs.declared.compare.Comparer.{Comparer}
use Rattle.status_world.specs.declared.world.event.Event.{Event}
use Rattle.status_world.specs.declared.world.event.Event.TheVariants as events
use Rattle.status_format.specs.Reading.{number_in}
use Rattle.status_format.specs.Reads.{◌>>=◌}
use Rattle.status_profile.specs.Forms.{limit_in, moment_in}
use Rattle.status_profile.specs.Words.{comparer_in}

-- an event by its values
pub data EventValue : Type 0 where
  tick : ℕ → EventValue
  nanos : ℕ → EventValue
  write : List ℕ → List ℕ → EventValue
  link : List ℕ → List ℕ → EventValue
  chmod : List ℕ → Bool → EventValue
  remove : List ℕ → EventValue
  stage : List ℕ → EventValue
  run : Comparer → ℕ → Option ℕ → Moment → EventValue

abbrev pub event_value : Event → EventValue
event_value (events.Tick n) = tick n
event_value (events.TickNanos n) = nanos n
event_value (events.Write path content) = write (bstring_bytes path) content.items
event_value (events.Link path target) = link (bstring_bytes path) target.items
event_value (events.SetExecutable path executable) = chmod (bstring_bytes path) executable
event_value (events.Remove path) = remove (bstring_bytes path)
event_value (events.Stage path) = stage (bstring_bytes path)
event_value (events.Run comparer chunk_size thread_limit stamp) = run comparer chunk_size thread_limit stamp

-- exactly one value, two or four
abbrev pub one_of : Items → Option Data
one_of no_items = None
one_of (item a no_items) = Some a
one_of (item a (item b ds)) = None

abbrev pub two_of : Items → Option (Data × Data)
two_of no_items = None
two_of (item a ds) = do
  b ← one_of ds
  Some (a, b)

abbrev pub four_of : Items → Option ((Data × Data) × (Data × Data))
four_of no_items = None
four_of (item a no_items) = None
four_of (item a (item b ds)) = do
  more ← two_of ds
  Some ((a, b), more)

abbrev pub number_in_one : Items → Option ℕ
number_in_one ds = one_of ds >>= number_in

abbrev pub path_in_one : Items → Option (List ℕ)
path_in_one ds = one_of ds >>= as_str

abbrev pub path_and_text_in : Items → Option (List ℕ × List ℕ)
path_and_text_in ds = do
  both ← two_of ds
  path ← as_str both.0
  text ← as_str both.1
  Some (path, text)

abbrev pub chmod_in : Items → Option EventValue
chmod_in ds = do
  both ← two_of ds
  path ← as_str both.0
  executable ← as_bool both.1
  Some (chmod path executable)

abbrev pub run_in : Items → Option EventValue
run_in ds = do
  four ← four_of ds
  comparer ← comparer_in four.0.0
  chunk_size ← number_in four.0.1
  thread_limit ← limit_in four.1.0
  stamp ← moment_in four.1.1
  Some (run comparer chunk_size thread_limit stamp)

abbrev pub number_event : (ℕ → EventValue) → Items → Option EventValue
number_event event ds = option_map event (number_in_one ds)

abbrev pub path_event : (List ℕ → EventValue) → Items → Option EventValue
path_event event ds = option_map event (path_in_one ds)

abbrev pub text_event : (List ℕ → List ℕ → EventValue) → Items → Option EventValue
text_event event ds = option_map (λ both. event both.0 both.1) (path_and_text_in ds)

-- the event of a word and the values after it
abbrev pub event_named : List ℕ → Items → Option EventValue
event_named word ds =
    if bytes_eq word (codes "tick") then number_event tick ds
    else (if bytes_eq word (codes "nanos") then number_event nanos ds
    else (if bytes_eq word (codes "write") then text_event write ds
    else (if bytes_eq word (codes "link") then text_event link ds
    else (if bytes_eq word (codes "chmod") then chmod_in ds
    else (if bytes_eq word (codes "remove") then path_event remove ds
    else (if bytes_eq word (codes "stage") then path_event stage ds
    else (if bytes_eq word (codes "run") then run_in ds
    else None)))))))

abbrev pub event_of : Items → Option EventValue
event_of no_items = None
event_of (item first ds) = do
  word ← as_str first
  event_named word ds

abbrev pub is_word : List ℕ → Option (List ℕ) → Bool
is_word name None = false
is_word name (Some word) = bytes_eq word name

-- the list of the word `reopen` alone
abbrev pub is_reopening : Items → Bool
is_reopening ds = is_word (codes "reopen") (one_of ds >>= as_str)

abbrev pub stretch_values : Vec (Vec Event Global) Global → List (List EventValue)
stretch_values stretches = map (λ events. map event_value events.items) stretches.items

-- the events after these, in stretches: between two of them the index is reopened
abbrev pub stretches_from : List EventValue → Items → Option (List (List EventValue))
stretches_from events no_items = Some (events ∷ [])
stretches_from events (item d ds) = do
  parts ← as_array d
  if is_reopening parts then option_map (λ stretches. events ∷ stretches) (stretches_from [] ds) else (event_of parts >>= (λ event. stretches_from (events ++ event ∷ []) ds))

abbrev pub stretches_in : Data → Option (List (List EventValue))
stretches_in d = as_array d >>= stretches_from []
