-- The bytes of a write that numbers choose.
use Rattle.std.proofs.Common.{◌≡◌, ℕ, ◌+◌, List, [], ◌∷◌, ◌++◌, drop, sym, ◌∙◌, ap, zero-add}
use Rattle.std.specs.Prelude.{slice_index}
use Rattle.std.proofs.lemmas.List.FromFn.{map-range_with_len_more}
use Rattle.sled_disk.specs.Choices.{chosen_of}
use Rattle.sled_disk.specs.Chosen.{byte_by, bytes_by}

-- one byte more
pub bytes_more : (numbers left old new bytes next : List ℕ) (i number : ℕ) → bytes ≡ bytes_by numbers i old new → left ≡ drop i numbers → number ≡ chosen_of 257 left
    → next ≡ bytes ++ byte_by number (slice_index old i) (slice_index new i) ∷ [] → next ≡ bytes_by numbers (i + 1) old new
bytes_more numbers left old new bytes next i number so_far rest is more =
    let chosen : number ≡ chosen_of 257 (drop i numbers) = is ∙ ap (chosen_of 257) rest in
    more
    ∙ ap (λ (n : ℕ). bytes ++ byte_by n (slice_index old i) (slice_index new i) ∷ []) chosen
    ∙ ap (λ (l : List ℕ). l ++ byte_by (chosen_of 257 (drop i numbers)) (slice_index old i) (slice_index new i) ∷ []) so_far
    ∙ sym (map-range_with_len_more (λ (j : ℕ). byte_by (chosen_of 257 (drop j numbers)) (slice_index old j) (slice_index new j)) 0 i i (zero-add i))
