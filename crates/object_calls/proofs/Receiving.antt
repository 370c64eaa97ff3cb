-- What a receive leaves where the first waiter asks to send.
use Rattle.std.proofs.Common.{◌≡◌, ℕ, List, [], Option, Some, ap, ◌∙◌}
use Rattle.tx_types.specs.declared.waits.End.TheVariants.{Satisfied}
use Rattle.call_arguments.specs.Words.{with_words}
use Rattle.msg_queues.specs.Queues.{popped}
use Rattle.region_guard.specs.Memory.{Memory}
use Rattle.suspend_lists.specs.Waits.{wait_of}
use Rattle.kernel_state.specs.Contents.{entered}
use Rattle.kernel_state.specs.Objects.{asks_to_send, first_that}
use Rattle.kernel_state.specs.Waiting.{wait_ended}
use Rattle.kernel_state.specs.declared.kernel.Kernel.{Kernel}
use Rattle.object_calls.specs.QueueRows.{received, refilled}

-- the first message is taken and the first sender's goes in
abbrev pub exchanged : Kernel → ℕ → ℕ → Kernel
exchanged k o t = record k { queues = entered (popped k.queues o) o (wait_of k.waits t) }

pub received_with_sender : (k : Kernel) (g : Memory) (o to t : ℕ) (m : List ℕ) → first_that asks_to_send k o ≡ Some t
    → received k g o to m ≡ wait_ended (exchanged k o t) (with_words g to m) t Satisfied []
unfolding received
received_with_sender k g o to t m is =
    ap (λ (first : Option ℕ). refilled first (record k { queues = popped k.queues o }) (with_words g to m) o) is

-- the end of a wait of the same kernel and memory, with the same value
pub end_by_parts : (j k : Kernel) (g h : Memory) (t : ℕ) (v w : List ℕ) → j ≡ k → g ≡ h → v ≡ w → wait_ended j g t Satisfied v ≡ wait_ended k h t Satisfied w
end_by_parts j k g h t v w same_kernel same_memory same_value =
    ap (λ now. wait_ended now g t Satisfied v) same_kernel
    ∙ (ap (λ now. wait_ended k now t Satisfied v) same_memory ∙ ap (λ now. wait_ended k h t Satisfied now) same_value)
