-- Why no store was opened of files that were mended.
use Rattle.std.proofs.Common.{inl, inr, ℕ, List}
use Rattle.sled_files.specs.Opening.{is_why_closed}
use Rattle.sled_files.specs.declared.found.OpenError.{OpenError}
use Rattle.sled_files.specs.declared.found.OpenError.TheVariants.{NoMemory, Disk, NotAStore, OtherFormat, Decayed}
use Rattle.files_once.specs.Mended.{IsMended}
use Rattle.files_once.specs.Lasting.{IsWhyUnmended}

pub why_unmended : (first second one two : List ℕ) → IsMended first one → IsMended second two → (e : OpenError) → is_why_closed e one two → IsWhyUnmended first second e
why_unmended first second one two first_is second_is NoMemory why = inl tt
why_unmended first second one two first_is second_is (Disk e) why = inl why
why_unmended first second one two first_is second_is NotAStore why = inr (record { one = one; two = two; first_mended = first_is; second_mended = second_is; why = why })
why_unmended first second one two first_is second_is (OtherFormat n) why = inr (record { one = one; two = two; first_mended = first_is; second_mended = second_is; why = why })
why_unmended first second one two first_is second_is (Decayed n) why = inr (record { one = one; two = two; first_mended = first_is; second_mended = second_is; why = why })
