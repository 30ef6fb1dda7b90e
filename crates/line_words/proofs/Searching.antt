-- Laws of the search of a byte.
use Rattle.std.proofs.Common.{◌≡◌, ℕ, ◌+◌, ◌%◌, ◌^◌, ◌<◌, ◌≤◌, ◌==◌, false, not, eqb, List, length, take, get_or-take, length-take, map, replicate, cond, All, sym, ap, ◌∙◌, arith, w8, eqb-true, inl, inr}
use Rattle.std.specs.List.{prefix_len}
use Rattle.std.specs.Int.{w64, trailing_zeros}
use Rattle.std.specs.Simd.Lanes.{zip2, mask_l, top, chunk}
use Rattle.std.proofs.lemmas.Bool.{cases_lt}
use Rattle.std.proofs.lemmas.List.Elements.{All-from_get_or}
use Rattle.std.proofs.lemmas.Simd.{bitmask_splat, leading_from_mask_l, trailing_mask_l, length-chunk, run_in_chunk_fails, run_in_chunk_stops}
use Rattle.line_words.specs.Search.{Lacks, IsFirst}

-- a bit for each of sixteen bytes: whether it is the byte
abbrev pub found_in : List ℕ → ℕ → ℕ
found_in xs byte = mask_l (map (top 7) (zip2 (λ a b. cond (eqb a b) 255 0) xs (replicate 16 byte))) % 2 ^ 64

pub none_found : (byte : ℕ) (bytes : List ℕ) (at : ℕ) → at + 16 ≤ length bytes → found_in (chunk at 16 bytes) byte ≡ 0 → 16 ≡ prefix_len (λ b. not (b == byte)) (chunk at 16 bytes)
none_found byte bytes at room none =
    let long = length-chunk at 16 bytes room in
    let bits = bitmask_splat w8 eqb (chunk at 16 bytes) 16 byte long (omega arith) in
    sym (leading_from_mask_l (λ b. b == byte) (chunk at 16 bytes) (sym bits ∙ none) ∙ long)

pub some_found : (byte : ℕ) (bytes : List ℕ) (at : ℕ) → at + 16 ≤ length bytes → (found_in (chunk at 16 bytes) byte ≡ 0 → ⊥) → trailing_zeros w64 (found_in (chunk at 16 bytes) byte) ≡ prefix_len (λ b. not (b == byte)) (chunk at 16 bytes)
some_found byte bytes at room some =
    let long = length-chunk at 16 bytes room in
    let bits = bitmask_splat w8 eqb (chunk at 16 bytes) 16 byte long (omega arith) in
    let more : 0 < mask_l (map (λ b. b == byte) (chunk at 16 bytes)) = omega (arith, bits, some) in
    ap (trailing_zeros w64) bits ∙ trailing_mask_l (λ b. b == byte) 64 (chunk at 16 bytes) (omega (arith, long)) more

-- the first places and some of the sixteen behind them
pub lacks_more : (byte : ℕ) (bytes : List ℕ) (at r : ℕ) → at + 16 ≤ length bytes → r ≡ prefix_len (λ b. not (b == byte)) (chunk at 16 bytes) → Lacks byte bytes at → Lacks byte bytes (at + r)
lacks_more byte bytes at r room counted before k below = elim (cases_lt k at) [
  | inl low ↦ before k low
  | inr high ↦ run_in_chunk_fails (λ b. b == byte) bytes at 16 r 0 room counted k high below
]

pub first_among : (byte : ℕ) (bytes : List ℕ) (at r : ℕ) → at + 16 ≤ length bytes → r ≡ prefix_len (λ b. not (b == byte)) (chunk at 16 bytes) → r < 16 → Lacks byte bytes at → IsFirst byte bytes (at + r)
first_among byte bytes at r room counted less before = record {
  within = omega arith;
  stands = eqb-true _ _ (run_in_chunk_stops (λ b. b == byte) bytes at 16 r 0 room counted less);
  before = lacks_more byte bytes at r room counted before;
}

pub lacks_fewer : (byte : ℕ) (bytes : List ℕ) (m n : ℕ) → m ≤ n → Lacks byte bytes n → Lacks byte bytes m
lacks_fewer byte bytes m n le before k below = before k (omega arith)

-- the same of each of the first bytes
pub lacking : (byte : ℕ) (bytes : List ℕ) (n : ℕ) → Lacks byte bytes n → All (λ b. (b == byte) ≡ false) (take n bytes)
lacking byte bytes n before = All-from_get_or (λ b. (b == byte) ≡ false) (take n bytes) 0 (λ k below.
    let low : k < n = omega (arith, length-take n bytes) in
    ap (λ b. b == byte) (get_or-take n bytes k 0 low) ∙ before k low)
