-- Of Record, for proofs. How the logic keeps events.
use Rattle.std.specs.Prelude.{◌≡◌, ◌⊎◌, ℕ, Bool, List, refl}
use Rattle.std.specs.Coded.{Coded, code_by, coded×, coded⊎, coded_ℕ, coded_bool, coded_list}
use Rattle.std.proofs.Common.{inl, inr}
use Rattle.sled_host.specs.Event.{Event, opened, wrote, cut, synced}

abbrev Parts : Type 0
Parts = (Bool × List ℕ) ⊎ ((ℕ × (List ℕ × Bool)) ⊎ ((ℕ × Bool) ⊎ Bool))

abbrev to_parts : Event → Parts
to_parts (opened is_new bytes) = inl (is_new, bytes)
to_parts (wrote at bytes done) = inr (inl (at, (bytes, done)))
to_parts (cut n done) = inr (inr (inl (n, done)))
to_parts (synced done) = inr (inr (inr done))

abbrev from_parts : Parts → Event
from_parts (inl it) = opened it.0 it.1
from_parts (inr (inl it)) = wrote it.0 it.1.0 it.1.1
from_parts (inr (inr (inl it))) = cut it.0 it.1
from_parts (inr (inr (inr done))) = synced done

pub from_to : (e : Event) → from_parts (to_parts e) ≡ e
from_to (opened is_new bytes) = refl
from_to (wrote at bytes done) = refl
from_to (cut n done) = refl
from_to (synced done) = refl

abbrev pub events_code : Coded (List Event)
events_code = coded_list (code_by Parts (coded⊎ (coded× coded_bool (coded_list coded_ℕ)) (coded⊎ (coded× coded_ℕ (coded× (coded_list coded_ℕ) coded_bool)) (coded⊎ (coded× coded_ℕ coded_bool) coded_bool))) to_parts from_parts from_to)
