-- What a core keeps before the first event.
use Rattle.std.proofs.Common.{◌≡◌, ℕ, ◌+◌, ◌*◌, ◌≤◌, refl, List, [], length, sym, ap, ◌∙◌, subst, arith}
use Rattle.atomic_table.specs.Seated.{TableId}
use Rattle.board_core.specs.Machine.{Recorded}
use Rattle.board_file.specs.Board.{script_words}
use Rattle.board_file.specs.Rules.{IsBoard}
use Rattle.event_log.specs.Events.{interrupts}
use Rattle.event_log.specs.Log.{closed, step_count}
use Rattle.event_log.specs.LogIn.{is_history}
use Rattle.event_log.specs.declared.entry.Entry.{Entry}
use Rattle.irq_inbox.specs.Seen.{CpuSeen}
use Rattle.kernel_lock.specs.Holds.{Holds}
use Rattle.log_lane.specs.Seen.{LaneSeen, PassSeen}

-- these are the parts of a core of n devices with w words, in a session of their own
pub new_core : (box : TableId) (line : LaneSeen) (m : Recorded) (pass : CpuSeen) (put : PassSeen) (n w : ℕ)
    → m.history ≡ [] → length m.origin.board.devices ≡ n → script_words m.origin.board.devices ≡ w → m.irqs ≡ w → IsBoard m.origin.board → line.most ≡ 2 * w + 1
    → pass ≡ record { inbox = box; devices = n; got = []; gathered = [] } → put ≡ record { lane = line.id; entries = [] }
    → Holds m.origin box line m box pass line put
new_core box line m pass put n w none devices words irqs rules room is_pass is_put =
    record {
      began = refl;
      its_inbox = refl;
      of_inbox = ap (λ (p : CpuSeen). p.inbox) is_pass;
      its_lane = refl;
      of_lane = ap (λ (p : PassSeen). p.lane) is_put;
      devices = ap (λ (p : CpuSeen). p.devices) is_pass ∙ sym devices;
      apart = ap (λ (p : CpuSeen). p.gathered) is_pass;
      taken = ap interrupts none ∙ sym (ap (λ (p : CpuSeen). p.got) is_pass);
      entries = ap (λ (p : PassSeen). p.entries) is_put ∙ sym (ap closed none);
      steps = subst (λ (es : List Entry). step_count es ≤ m.origin.board.steps) (sym none) (omega arith);
      most = irqs ∙ sym words;
      capacity = room ∙ sym (ap (λ (k : ℕ). 2 * k + 1) irqs);
      history = ap (is_history (length m.origin.board.devices)) none;
      rules = rules;
    }
