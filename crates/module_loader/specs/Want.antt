-- What a module wants of memory.
use Rattle.std.specs.Prelude.{◌≡◌, ℕ, ◌+◌, ◌-◌, ◌*◌, ◌/◌, ◌≤◌, true, if◌then◌else◌}
use Rattle.module_preamble.specs.Preamble.{most_data, most_stack}
use Rattle.module_preamble.specs.Words.{has_callback}
use Rattle.module_preamble.specs.declared.words.Preamble.{Preamble}
use Rattle.module_loader.specs.declared.want.Want.{Want}

-- the least multiple of a step that isn't below n
abbrev pub rounded_up : ℕ → ℕ → ℕ
rounded_up step n = (n + (step - 1)) / step * step

-- the data, and the stack of the start thread
abbrev pub data_and_stack : Preamble → ℕ
data_and_stack p = rounded_up 16 p.data_size + rounded_up 16 p.start_stack

-- the stack of the callback thread, where there is one
abbrev pub callback_bytes : Preamble → ℕ
callback_bytes p = if has_callback p then rounded_up 16 p.callback_stack else 0

-- the code, and all that lies in the data region
abbrev pub want_of : Preamble → Want
want_of p = record { code = p.code_size; data_bytes = data_and_stack p + callback_bytes p }

-- the sizes have the bounds that an accepted image keeps
pub record HasSizes (p : Preamble) : Type 0 where
  pub data_size : p.data_size ≤ most_data
  pub start_stack : p.start_stack ≤ most_stack
  pub callback_stack : has_callback p ≡ true → p.callback_stack ≤ most_stack
