-- Which bytes are a block behind its gate.
use Rattle.std.proofs.Common.{◌≡◌, ◌∙◌, ℕ, ◌+◌, ◌<◌, ◌≤◌, ◌^◌, List, [], ◌∷◌, ◌++◌, length, take, drop, sym, ap, arith, append_assoc, take-append-drop}
use Rattle.std.specs.Int.{w64, to_le_bytes, from_le_bytes}
use Rattle.std.specs.List.{IsLastAndRest}
use Rattle.std.proofs.lemmas.List.{length-take-le}
use Rattle.std.proofs.lemmas.Nat.{le_bytes_8}
use Rattle.sled_log.specs.Digest.{digest}
use Rattle.sled_log.specs.Log.{closed}
use Rattle.sled_log.proofs.ReadingLemmas.{AreBytes, bytes-take, bytes-drop}
use Rattle.sled_once.specs.Stages.{IsBlock}

-- the number that eight bytes at a front spell
eight_are : (bytes : List ℕ) (n : ℕ) → AreBytes bytes → 8 ≤ length bytes → n ≡ from_le_bytes w64 (take 8 bytes) → to_le_bytes w64 n ≡ take 8 bytes
eight_are bytes n small long is = le_bytes_8 (take 8 bytes) n (length-take-le 8 bytes long) (bytes-take 8 bytes small) is

module _ (bytes behind rest payload : List ℕ) (gate : ℕ) (small : AreBytes bytes) (behind_is : behind ≡ drop 8 bytes) (rest_is : rest ≡ drop 8 behind) (last : IsLastAndRest rest gate payload) (shut : gate ≡ closed) where
  -- bytes that end so, and begin with the length and the digest of what is between
  pub block_is : (count told : List ℕ) → count ≡ take 8 bytes → length behind + 8 ≡ length bytes → told ≡ take 8 behind → length rest + 8 ≡ length behind → length payload < 2 ^ 64 → length payload ≡ from_le_bytes w64 count → digest payload ≡ from_le_bytes w64 told → IsBlock bytes
  block_is count told count_is long told_is behind_long fits counted right =
      let one : to_le_bytes w64 (length payload) ≡ take 8 bytes = eight_are bytes (length payload) small (omega (arith, long)) (counted ∙ ap (from_le_bytes w64) count_is) in
      let two : to_le_bytes w64 (digest payload) ≡ take 8 (drop 8 bytes) =
      eight_are (drop 8 bytes) (digest payload) (bytes-drop 8 bytes small) (omega (arith, behind_long, ap length behind_is)) (right ∙ ap (from_le_bytes w64) (told_is ∙ ap (λ (l : List ℕ). take 8 l) behind_is)) in
      let end : drop 8 (drop 8 bytes) ≡ payload ++ closed ∷ [] = sym (rest_is ∙ ap (λ (l : List ℕ). drop 8 l) behind_is) ∙ last.0 ∙ ap (λ (g : ℕ). payload ++ g ∷ []) shut in
      record {
        payload = payload;
        fits = fits;
        is = sym (take-append-drop 8 bytes)
            ∙ ap (λ (l : List ℕ). take 8 bytes ++ l) (sym (take-append-drop 8 (drop 8 bytes)) ∙ ap (λ (l : List ℕ). take 8 (drop 8 bytes) ++ l) end)
            ∙ sym (append_assoc (take 8 bytes) (take 8 (drop 8 bytes)) (payload ++ (closed ∷ [])))
            ∙ sym (append_assoc (take 8 bytes ++ take 8 (drop 8 bytes)) payload (closed ∷ []))
            ∙ ap (λ (l : List ℕ). l ++ take 8 (drop 8 bytes) ++ payload ++ closed ∷ []) (sym one)
            ∙ ap (λ (l : List ℕ). to_le_bytes w64 (length payload) ++ l ++ payload ++ closed ∷ []) (sym two);
      }
