-- What a board file means: its fields in the order in which they are tested.
use Rattle.std.specs.Prelude.{ℕ, zero, suc, ◌+◌, ◌*◌, Bool, false, nat_le, if◌then◌else◌, List, []}
use Rattle.std.specs.Prelude.{◌∷◌, ◌++◌, length, position, sum_by, Option, Some, None, Result, Ok}
use Rattle.std.specs.Prelude.{option_and_then, codes}
use Rattle.std.specs.List.{list_any}
use Rattle.std.specs.Str.{bytes_eq}
use Rattle.toml.specs.Data.{Data, Members, no_items, as_bool, as_str}
use Rattle.tx_types.specs.Limits.{module_limit, device_limit, show_limit, cell_limit, step_limit}
use Rattle.tx_types.specs.Limits.{interrupt_limit}
use Rattle.board_file.specs.Field.{◌>>=◌, Part, named, required, optional, forbidden, in_range}
use Rattle.board_file.specs.Field.{name_of, name_unless, text_within, array_within, words_of}
use Rattle.board_file.specs.Field.{entries, nothing_else}
use Rattle.board_file.specs.Path.{key_path}
use Rattle.board_file.specs.declared.board.Action.{Action}
use Rattle.board_file.specs.declared.board.Action.TheVariants.{Resume, Tick}
use Rattle.board_file.specs.declared.board.Board.{Board}
use Rattle.board_file.specs.declared.board.BoardModule.{BoardModule}
use Rattle.board_file.specs.declared.board.BoardDevice.{BoardDevice}
use Rattle.board_file.specs.declared.board.BoardShow.{BoardShow}

-- one of the modules, and of the devices, has the name
abbrev pub names_module : List BoardModule → List ℕ → Bool
names_module ms name = list_any (λ (m : BoardModule). bytes_eq name m.name) ms

abbrev pub names_device : List BoardDevice → List ℕ → Bool
names_device ds name = list_any (λ (d : BoardDevice). bytes_eq name d.name) ds

-- `[[module]]`
unfoldable pub module_of : Part → List BoardModule → Result BoardModule (List ℕ)
module_of part earlier = do
  name ← required (name_unless (names_module earlier)) part (codes "name")
  image ← required (text_within 255) part (codes "image")
  start ← optional false as_bool part (codes "start")
  rest ← nothing_else (codes "name" ∷ codes "image" ∷ codes "start" ∷ []) part
  Ok (record { name = name; image = image; start = start })

-- the actions so far are `tick` and `resume`
abbrev pub action_named : List ℕ → Option Action
action_named text =
    if bytes_eq text (codes "tick") then Some Tick
    else (if bytes_eq text (codes "resume") then Some Resume else None)

abbrev pub action_of : Data → Option Action
action_of d = option_and_then action_named (as_str d)

-- what an action is made on, by name; a tick may have no target
abbrev pub target_of : Action → Part → Result (List ℕ) (List ℕ)
target_of Tick part = do
  none ← forbidden part (codes "target")
  Ok []
target_of _ part = required name_of part (codes "target")

-- the words the given number of times over
abbrev pub repeated : ℕ → List ℕ → List ℕ
repeated zero words = []
repeated (suc n) words = repeated n words ++ words

-- how many words the scripts of devices have
abbrev pub script_words : List BoardDevice → ℕ
script_words ds = sum_by (λ (d : BoardDevice). length d.script) ds

-- the words the given number of times over, where all scripts have no more words together than
-- there may be interrupts
abbrev pub script_within : ℕ → ℕ → List ℕ → Option (List ℕ)
script_within before n words =
    if nat_le (before + n * length words) interrupt_limit then Some (repeated n words) else None

-- `[[device]]`
unfoldable pub device_of : Part → List BoardDevice → Result BoardDevice (List ℕ)
device_of part earlier = do
  name ← required (name_unless (names_device earlier)) part (codes "name")
  action ← required action_of part (codes "action")
  target ← target_of action part
  words ← required words_of part (codes "script")
  repeat ← optional 1 (in_range 1 interrupt_limit 1) part (codes "repeat")
  script ← named (key_path part.path (codes "script"))
      (script_within (script_words earlier) repeat words)
  rest ← nothing_else
      (codes "name" ∷ codes "action" ∷ codes "target" ∷ codes "script" ∷ codes "repeat" ∷ []) part
  Ok (record { name = name; action = action; target = target; script = script })

-- the number of the module of a name
abbrev pub module_in : List BoardModule → Data → Option ℕ
module_in modules d =
    option_and_then (λ name. position (λ (m : BoardModule). bytes_eq name m.name) modules)
    (as_str d)

-- `[[show]]`
unfoldable pub show_of : List BoardModule → Part → Result BoardShow (List ℕ)
show_of modules part = do
  m ← required (module_in modules) part (codes "module")
  offset ← required (in_range 0 16777212 4) part (codes "offset")
  words ← required (in_range 1 cell_limit 1) part (codes "words")
  rest ← nothing_else (codes "module" ∷ codes "offset" ∷ codes "words" ∷ []) part
  Ok (record { «module» = m; offset = offset; words = words })

-- the whole file
unfoldable pub board_of : Members → Result Board (List ℕ)
board_of file = let top : Part = record { path = []; fields = file } in do
  ram ← required (in_range 4096 16777216 32) top (codes "ram")
  steps ← required (in_range 0 step_limit 1) top (codes "steps")
  module_entries ← required (array_within 1 module_limit) top (codes "module")
  modules ← entries module_of (codes "module") [] module_entries
  shared ← forbidden top (codes "share")
  device_entries ← optional no_items (array_within 0 device_limit) top (codes "device")
  devices ← entries device_of (codes "device") [] device_entries
  show_entries ← optional no_items (array_within 0 show_limit) top (codes "show")
  shows ← entries (λ part earlier. show_of modules part) (codes "show") [] show_entries
  rest ← nothing_else
      (codes "ram" ∷ codes "steps" ∷ codes "module" ∷ codes "device" ∷ codes "show" ∷ []) top
  Ok (record {
    ram = ram;
    steps = steps;
    modules = modules;
    shares = [];
    devices = devices;
    shows = shows;
  })
