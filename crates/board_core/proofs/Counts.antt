-- What is kept of devices counts the words of a history.
use Rattle.std.proofs.Common.{◌≡◌, ℕ, ◌+◌, ◌<◌, List, [], ◌∷◌, ◌++◌, cond, length, length-append, replicate, refl, sym, ap, ◌∙◌, subst, ⊎_elim, arith}
use Rattle.std.proofs.lemmas.Bool.{cases_lt, eq-eqb, ne_eqb}
use Rattle.std.proofs.lemmas.List.{get_or-replicate, get_or-set_other, get_or-set_same, get_or_past, length-replicate}
use Rattle.event_log.specs.Events.{words_in, words_of}
use Rattle.event_log.specs.Log.{with_irq}
use Rattle.event_log.specs.declared.entry.Entry.{Entry}
use Rattle.event_log.specs.declared.entry.Entry.TheVariants.{Irq}
use Rattle.board_core.specs.Devices.{device_at, fresh_device, noted}
use Rattle.board_core.specs.Machine.{AreCounted}
use Rattle.board_core.specs.declared.devices.Device.{Device}
use Rattle.board_core.proofs.OwnedSlots.{same_or_other}

-- of fresh devices none has a word
fresh_at : (n d : ℕ) → device_at (replicate n fresh_device) d ≡ fresh_device
fresh_at n d =
    ⊎_elim (λ (below : d < n). get_or-replicate n d fresh_device fresh_device below)
    (λ past. get_or_past (replicate n fresh_device) d fresh_device (omega (arith, past, length-replicate n fresh_device))) (cases_lt d n)

pub fresh_counts : (n : ℕ) → AreCounted (replicate n fresh_device) []
fresh_counts n d = ap (λ (x : Device). x.taken) (fresh_at n d)

-- an interrupt is one word more of its device
abbrev pub IsOneWordMore : Type 0
IsOneWordMore = (device d w : ℕ) (es : List Entry) → words_of device (with_irq d w es) ≡ words_of device es ++ words_in device (Irq d w)

module _ (more : IsOneWordMore) (ds : List Device) (d w status : ℕ) (h : List Entry) (inside : d < length ds) (counts : AreCounted ds h) where
  words : (x : ℕ) → length (words_of x (with_irq d w h)) ≡ length (words_of x h) + length (words_in x (Irq d w))
  words x = ap (λ (ws : List ℕ). length ws) (more x d w h) ∙ length-append (words_of x h) (words_in x (Irq d w))

  abbrev now : Device
  now = record { taken = (device_at ds d).taken + 1; last = status }

  own_counts : (device_at (noted ds d status) d).taken ≡ length (words_of d (with_irq d w h))
  own_counts =
      let set = ap (λ (x : Device). x.taken) (get_or-set_same ds d now fresh_device inside) in
      let one : length (words_in d (Irq d w)) ≡ 1 = ap (λ b. length (cond b (w ∷ []) [])) (eq-eqb d d refl) in
      set ∙ omega (arith, words d, one, counts d)

  pub irq_counts : AreCounted (noted ds d status) (with_irq d w h)
  irq_counts x =
      ⊎_elim (λ (same : x ≡ d). subst (λ y. (device_at (noted ds d status) y).taken ≡ length (words_of y (with_irq d w h))) (sym same) own_counts)
      (λ other.
      let set = ap (λ (v : Device). v.taken) (get_or-set_other ds d x now fresh_device other) in
      let none : length (words_in x (Irq d w)) ≡ 0 = ap (λ b. length (cond b (w ∷ []) [])) (ne_eqb d x (λ same. other (sym same))) in
      set ∙ omega (arith, words x, none, counts x))
      (same_or_other x d)
