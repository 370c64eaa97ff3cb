use Rattle.std.proofs.Common.{◌≡◌, ◌↔◌, Bool, nat_lt, true, sym, subst}
use Rattle.std.specs.List.{list_all}
use Rattle.soft_timers.specs.Timers.{TimerTable, IsRunning}
use Rattle.soft_timers.specs.declared.due.Armed.{Armed}
use Rattle.soft_timers.proofs.Kept.{runs_by_test}
use Rattle.soft_timers.proofs.wheel.Wheel.is_running.Goals as goal

pub returns : goal.returns
returns c =
    let w : TimerTable = record { ticks = c.self.inside.ticks; armings = c.self.inside.armings; entries = c.self.inside.entries.items } in
    let same : c.all_later.result ≡ list_all (λ (e : Armed). nat_lt w.ticks e.expiry) w.entries =
    subst (λ es. c.all_later.result ≡ list_all (λ (e : Armed). nat_lt w.ticks e.expiry) es) c.deref.ensures.value c.all_later.ensures in
    subst (λ (v : TimerTable). (c.all_later.result ≡ true) ↔ IsRunning v) c.self.view_is
    (subst (λ (b : Bool). (b ≡ true) ↔ IsRunning w) (sym same) (runs_by_test w))
