-- What one more call makes of what a crash may leave.
use Rattle.std.proofs.Common.{◌≡◌, inl, inr, refl, sym, subst, ℕ, ◌≤◌, Bool, true, false, List, ◌∷◌, length, arith}
use Rattle.std.proofs.lemmas.List.{take_all}
use Rattle.sled_disk.specs.Disk.{Torn, Shortened, Follows}
use Rattle.sled_disk.proofs.Calls.{torn_written, torn_lost, shortened_cut}
use Rattle.sled_host.specs.Event.{Event, wrote, cut}
use Rattle.sled_host.specs.Outcomes.{seen_after_all, MayLeave}

-- a cut may be lost
shortened_lost : (n : ℕ) (file : List ℕ) → n ≤ length file → Shortened n file file
shortened_lost n file le = record { no_shorter = omega (arith, le); front = sym (take_all (length file) file (omega arith)) }

module _ (earlier : List Event) where
  -- after a write, done or not, an outcome is one from before it after a torn write
  write_follows : (at : ℕ) (bytes : List ℕ) (done : Bool) → at ≤ length (seen_after_all earlier) → Follows (Torn at bytes) (MayLeave earlier) (MayLeave (wrote at bytes done ∷ earlier))
  write_follows at bytes true le c (inl now) = (seen_after_all earlier, inl refl, subst (Torn at bytes (seen_after_all earlier)) (sym now) (torn_written at bytes (seen_after_all earlier) le))
  write_follows at bytes false le c (inl now) = (seen_after_all earlier, inl refl, subst (Torn at bytes (seen_after_all earlier)) (sym now) (torn_lost at bytes (seen_after_all earlier)))
  write_follows at bytes done le c (inr (old, left, torn)) = (old, inr left, torn)

  -- after a cut, done or not
  cut_follows : (n : ℕ) (done : Bool) → n ≤ length (seen_after_all earlier) → Follows (Shortened n) (MayLeave earlier) (MayLeave (cut n done ∷ earlier))
  cut_follows n true le c (inl now) = (seen_after_all earlier, inl refl, subst (Shortened n (seen_after_all earlier)) (sym now) (shortened_cut n (seen_after_all earlier) le))
  cut_follows n false le c (inl now) = (seen_after_all earlier, inl refl, subst (Shortened n (seen_after_all earlier)) (sym now) (shortened_lost n (seen_after_all earlier) le))
  cut_follows n done le c (inr (old, left, shortened)) = (old, inr left, shortened)

  pub written_follows : (at : ℕ) (bytes : List ℕ) (done : Bool) (events : List Event) → events ≡ wrote at bytes done ∷ earlier → at ≤ length (seen_after_all earlier) → Follows (Torn at bytes) (MayLeave earlier) (MayLeave events)
  written_follows at bytes done events is le = subst (λ (l : List Event). Follows (Torn at bytes) (MayLeave earlier) (MayLeave l)) (sym is) (write_follows at bytes done le)

  pub cut_off_follows : (n : ℕ) (done : Bool) (events : List Event) → events ≡ cut n done ∷ earlier → n ≤ length (seen_after_all earlier) → Follows (Shortened n) (MayLeave earlier) (MayLeave events)
  cut_off_follows n done events is le = subst (λ (l : List Event). Follows (Shortened n) (MayLeave earlier) (MayLeave l)) (sym is) (cut_follows n done le)
