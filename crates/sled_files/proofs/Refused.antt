-- Why two disks were not opened.
use Rattle.std.proofs.Common.{ℕ, List}
use Rattle.sled_files.specs.declared.found.OpenError.{OpenError}
use Rattle.sled_files.specs.declared.found.OpenError.TheVariants.{NoMemory, NotAStore, OtherFormat, Decayed, Disk}
use Rattle.sled_files.specs.Opening.{is_why_unopened, is_why_closed, is_refusal}

pub refusal_closed : (e : OpenError) (first second : List ℕ) → is_refusal e → is_why_closed e first second
refusal_closed NoMemory first second is = tt
refusal_closed (Disk e) first second is = is
refusal_closed NotAStore first second is = absurd is
refusal_closed (OtherFormat other) first second is = absurd is
refusal_closed (Decayed place) first second is = absurd is

pub unopened_closed : (e : OpenError) (first second : List ℕ) → is_why_unopened e first second → is_why_closed e first second
unopened_closed NoMemory first second why = tt
unopened_closed (Disk e) first second why = absurd why
unopened_closed NotAStore first second why = why
unopened_closed (OtherFormat other) first second why = why
unopened_closed (Decayed place) first second why = why
