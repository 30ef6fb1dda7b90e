-- Laws of a test of each byte, some bytes at a time.
use Rattle.std.proofs.Common.{◌≡◌, ℕ, ◌+◌, ◌≤◌, ◌&&◌, Bool, true, false, List, length, take, drop, sym, ap, ◌∙◌, arith, take-append-drop, take-take, take-add, take_all, length-drop}
use Rattle.std.proofs.lemmas.Bool.{and_left, and_right, and_from, and_parts}
use Rattle.std.proofs.lemmas.List.Folds.{list_all-append}
use Rattle.std.specs.List.{list_all}

-- the first bytes, and the others
parts : (p : ℕ → Bool) (at : ℕ) (bytes : List ℕ) → list_all p bytes ≡ (list_all p (take at bytes) && list_all p (drop at bytes))
parts p at bytes = sym (ap (list_all p) (take-append-drop at bytes)) ∙ list_all-append p (take at bytes) (drop at bytes)

-- one that fails among some of them is enough
pub fails_among : (p : ℕ → Bool) (at n : ℕ) (bytes : List ℕ) → list_all p (take n (drop at bytes)) ≡ false → list_all p bytes ≡ false
fails_among p at n bytes fails = parts p at bytes ∙ and_right _ _ (parts p n (drop at bytes) ∙ and_left _ _ fails)

-- those looked at so far, and some more
pub passes_more : (p : ℕ → Bool) (at n next : ℕ) (bytes : List ℕ) → next ≡ at + n → list_all p (take at bytes) ≡ true → list_all p (take n (drop at bytes)) ≡ true → list_all p (take next bytes) ≡ true
passes_more p at n next bytes is before more =
    ap (λ m. list_all p (take m bytes)) is ∙ (ap (list_all p) (take-add at n bytes) ∙ (list_all-append p (take at bytes) (take n (drop at bytes)) ∙ and_from _ _ before more))

-- the last ones tell, where those before them were looked at
pub tells_last : (p : ℕ → Bool) (last at n : ℕ) (bytes : List ℕ) (told : Bool) → last ≤ at → length bytes ≤ last + n → list_all p (take at bytes) ≡ true → told ≡ list_all p (take n (drop last bytes)) → told ≡ list_all p bytes
tells_last p last at n bytes told below all before tells =
    let shorter : list_all p (take last bytes) ≡ true = ap (list_all p) (sym (take-take last at bytes below)) ∙ (and_parts _ _ (sym (parts p last (take at bytes)) ∙ before)).0 in
    let whole : take n (drop last bytes) ≡ drop last bytes = take_all n (drop last bytes) (omega (arith, length-drop last bytes)) in
    tells ∙ (ap (list_all p) whole ∙ sym (parts p last bytes ∙ ap (λ b. b && list_all p (drop last bytes)) shorter))
