-- A kernel serves after words were written.
use Rattle.std.proofs.Common.{◌≡◌, ℕ, ◌+◌, List, [], ◌∷◌, refl}
use Rattle.call_arguments.specs.Words.{with_word, with_words}
use Rattle.region_guard.specs.Memory.{Memory}
use Rattle.kernel_state.specs.Serves.{Serves}
use Rattle.kernel_state.specs.WaitLaws.{PromisesStay}
use Rattle.kernel_state.specs.declared.kernel.Kernel.{Kernel}

written-regions : (g : Memory) (x : ℕ) (ws : List ℕ) → (with_words g x ws).regions ≡ g.regions
written-regions g x [] = refl
written-regions g x (w ∷ ws) = written-regions (with_word g x w) (x + 4) ws

pub written_serves : PromisesStay → (k : Kernel) (g : Memory) (x : ℕ) (ws : List ℕ) → Serves k g → Serves k (with_words g x ws)
written_serves stays k g x ws serves = record {
  sound = serves.sound;
  running = serves.running;
  promised = stays k k g (with_words g x ws) serves.promised (written-regions g x ws) (λ t w is. record { is = is; owner = refl; words = refl });
}
