-- Nothing that has to hold of a kernel speaks of its clock.
use Rattle.std.proofs.Common.{ℕ, [], refl, inl}
use Rattle.kernel_state.specs.Laws.{SoundFrom}
use Rattle.kernel_state.specs.Sound.{IsSound}
use Rattle.kernel_state.specs.declared.kernel.Kernel.{Kernel}

pub clock_keeps_sound : SoundFrom → (k : Kernel) (c : ℕ) → IsSound k → IsSound (record k { clock = c })
clock_keeps_sound from k c sound =
    let formed = sound.formed in
    from [] k (record k { clock = c }) sound (record {
      scheduler = formed.scheduler;
      levels = refl;
      slots = refl;
      threads = refl;
      spots = refl;
      waits = formed.waits;
      wheel = formed.wheel;
      clean = formed.clean;
      contents = formed.contents;
      asked = formed.asked;
      entries = λ u below. inl (record {
        live = refl;
        alike = record { «module» = refl; state = refl; priority = refl; threshold = refl; slice = refl; left = refl; held = refl };
        owner = λ live. refl;
        ready = refl;
        priority = refl;
        threshold = refl;
        wait = refl;
      });
      timeouts = formed.timeouts;
      places = λ m below. record { shell = (formed.places m below).shell; callback = (formed.places m below).callback };
    })
