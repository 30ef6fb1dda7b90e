-- A number that is read.
use Rattle.std.proofs.Common.{◌≡◌, ℕ, ◌+◌, ◌-◌, List, length, take, drop, Ok, Err, if◌then◌else◌, sym, ap, ◌∙◌, arith}
use Rattle.std.specs.Int.{w64, from_le_bytes}
use Rattle.std.proofs.lemmas.Bool.{le-ltb}
use Rattle.std.proofs.lemmas.List.{drop-drop, take_rest}
use Rattle.sled_bytes.specs.declared.refusal.Flaw.TheVariants.{Short}
use Rattle.sled_bytes.specs.Reading.{number_at}

-- the first eight bytes of those from a place on
pub number_is : (bytes front rest : List ℕ) (at n : ℕ) → length rest + 8 ≡ length (take (length bytes - at) (drop at bytes)) → front ≡ take 8 (take (length bytes - at) (drop at bytes)) → n ≡ from_le_bytes w64 front → number_at (drop at bytes) ≡ Ok (n, drop (at + 8) bytes)
number_is bytes front rest at n long front_is n_is =
    let all = take_rest bytes at in
    let enough : length rest + 8 ≡ length (drop at bytes) = long ∙ ap length all in
    ap (λ b. if b then Err Short else Ok (from_le_bytes w64 (take 8 (drop at bytes)), drop 8 (drop at bytes))) (le-ltb (length (drop at bytes)) 8 (omega arith))
    ∙ ap (λ (m : ℕ). Ok (m, drop 8 (drop at bytes))) (sym (n_is ∙ ap (from_le_bytes w64) (front_is ∙ ap (take 8) all)))
    ∙ ap (λ (l : List ℕ). Ok (n, l)) (drop-drop 8 at bytes)
