-- Byte strings that are taken apart and put together.
use Rattle.std.proofs.Common.{◌≡◌, ℕ, zero, suc, ◌+◌, ◌-◌, ◌<◌, ◌≤◌, Bool, true, false, MatchBool, List, [], ◌∷◌, ◌++◌, length, take, drop, replicate, get_or, refl, sym, ap, ◌∙◌, arith, length-append, append_assoc, add-one, take-append-drop}
use mathlib.Core.Bool.{true≢false}
use Rattle.std.proofs.lemmas.Map.Text.{is_eq-slice_cmp}
use Rattle.std.proofs.lemmas.Slice.Eq.{bytes_eq-Decides}
use Rattle.std.specs.Cmp.Lexicographic.{slice_cmp}
use Rattle.std.specs.Ordering.{nat_cmp, is_eq}
use Rattle.std.proofs.lemmas.List.{length-take-le}
use Rattle.std.proofs.Math.Seq.{take-append_seam, take-suc, take-length}
use Rattle.sled_nodes.specs.Order.{Key}
use Rattle.sled_nodes.specs.Bytes.{padded}
use Rattle.sled_nodes.specs.Prefix.{shared, shared_with, prefix_of, behind}
use Rattle.sled_nodes.proofs.Fronts.{padded-over, length-padded}
use Rattle.sled_nodes.proofs.Prefixes.{behind_nothing}
use Rattle.sled_nodes.proofs.Changed.{rest_taken}

-- the rest of a key
pub rest_is : (p k : Key) (n : ℕ) → n ≡ length p → take n k ≡ p → k ≡ p ++ take (length k - n) (drop n k)
rest_is p k n l h = sym (take-append-drop n k) ∙ (ap (λ x. x ++ drop n k) h ∙ ap (λ r. p ++ r) (sym (rest_taken k k n n refl refl)))

pub no_rest : (p k : Key) (n : ℕ) → n ≡ length p → (take n k ≡ p → ⊥) → (rest : Key) → k ≡ p ++ rest → ⊥
no_rest p k n l h rest e = h (ap (take n) e ∙ (ap (λ m. take m (p ++ rest)) l ∙ take-append_seam p rest))

pub too_short : (p k : Key) → length k < length p → (rest : Key) → k ≡ p ++ rest → ⊥
too_short p k h rest e = let n : length k ≡ length p + length rest = ap length e ∙ length-append p rest in omega (arith, h, n)

-- two of one length, byte by byte
pub same_so_far : (a b : Key) (i : ℕ) → i < length a → i < length b → get_or a i 0 ≡ get_or b i 0 → take i a ≡ take i b → take (i + 1) a ≡ take (i + 1) b
same_so_far a b i h k e f = rw add-one (take-suc a i 0 h ∙ (ap (λ l. l ++ get_or a i 0 ∷ []) f ∙ (ap (λ z. take i b ++ z ∷ []) e ∙ sym (take-suc b i 0 k))))

pub same_all : (a b : Key) (i : ℕ) → length a ≡ length b → i ≡ length a → take i a ≡ take i b → a ≡ b
same_all a b i l e f = sym (take-length a) ∙ (ap (λ n. take n a) (sym e) ∙ (f ∙ (ap (λ n. take n b) (e ∙ l) ∙ take-length b)))

pub same_told : (a b : Key) (t : Bool) → t ≡ is_eq (slice_cmp nat_cmp a b) → MatchBool t (a ≡ b) (a ≡ b → ⊥)
same_told a b true e = (bytes_eq-Decides a b).0 (sym (is_eq-slice_cmp a b) ∙ sym e)
same_told a b false e = λ f. true≢false (sym ((bytes_eq-Decides a b).1 f) ∙ (sym (is_eq-slice_cmp a b) ∙ sym e))

-- bytes over the zeros behind others
over_zeros : (k : ℕ) → padded k [] ≡ replicate k 0
unfolding padded
over_zeros zero = refl
over_zeros (suc k) = ap (λ (z : Key). 0 ∷ z) (over_zeros k)

pub padded-more : (k : ℕ) (f b : Key) → length (f ++ b) ≤ k → f ++ b ++ drop (length (f ++ b)) (padded k f) ≡ padded k (f ++ b)
unfolding padded
padded-more k [] b h = ap (λ (z : Key). b ++ drop (length b) z) (over_zeros k) ∙ padded-over k b (omega (arith, h))
padded-more zero (x ∷ f) b h = absurd (omega (arith, h))
padded-more (suc k) (x ∷ f) b h = ap (λ (z : Key). x ∷ z) (padded-more k f b (omega (arith, h)))

-- more bytes behind a short string
module _ (count len : ℕ) (bytes b own w : Key) (e : own ≡ b) (l : len ≡ length b) (room : count + len ≤ 22) (zeros : padded 22 (take count bytes) ≡ bytes) where
  fits : count ≤ length bytes
  fits = let n : length bytes ≡ 22 = ap length (sym zeros) ∙ length-padded 22 (take count bytes) in omega (arith, n, room)

  both : count + len ≡ length (take count bytes ++ b)
  both = let n : length (take count bytes) ≡ count = length-take-le count bytes fits in let m = length-append (take count bytes) b in omega (arith, n, m, l)

  pub more_taken : take (count + len) (take count bytes ++ (own ++ w)) ≡ take count bytes ++ b
  more_taken =
      ap (λ x. take (count + len) (take count bytes ++ (x ++ w))) e
      ∙ (ap (take (count + len)) (sym (append_assoc (take count bytes) b w)) ∙ (ap (λ m. take m (take count bytes ++ b ++ w)) both ∙ take-append_seam (take count bytes ++ b) w))

  pub more_short : w ≡ drop (count + len) bytes → padded 22 (take (count + len) (take count bytes ++ (own ++ w))) ≡ take count bytes ++ (own ++ w)
  more_short d =
      ap (padded 22) more_taken
      ∙ sym (ap (λ x. take count bytes ++ (x ++ w)) e
      ∙ (ap (λ x. take count bytes ++ (b ++ x)) (d ∙ (ap (λ m. drop m bytes) both ∙ ap (drop (length (take count bytes ++ b))) (sym zeros)))
      ∙ (sym (append_assoc (take count bytes) b (drop (length (take count bytes ++ b)) (padded 22 (take count bytes)))) ∙ padded-more 22 (take count bytes) b (let n = both in omega (arith, n, room)))))

-- two strings in one room
pub joined_in : (f b one two z w : Key) → one ≡ f → two ≡ b → take (length f + length b) (take (length f) (one ++ z) ++ (two ++ w)) ≡ f ++ b
joined_in f b one two z w d e =
    ap (λ x. take (length f + length b) (take (length f) (x ++ z) ++ (two ++ w))) d
    ∙ (ap (λ x. take (length f + length b) (x ++ (two ++ w))) (take-append_seam f z)
    ∙ (ap (λ x. take (length f + length b) (f ++ (x ++ w))) e
    ∙ (ap (take (length f + length b)) (sym (append_assoc f b w))
    ∙ (ap (λ n. take n (f ++ b ++ w)) (sym (length-append f b)) ∙ take-append_seam (f ++ b) w))))

-- no beginning
pub nothing_before : {X : Type 0} (p : Key) (es now : List (Key × X)) → p ≡ [] → behind p es ≡ now → es ≡ now
nothing_before p es now e view = sym (behind_nothing es) ∙ (ap (λ q. behind q es) (sym e) ∙ view)

shared_nothing : (k : Key) → shared k [] ≡ []
shared_nothing [] = refl
shared_nothing (x ∷ xs) = refl

pub nothing_shared : {X : Type 0} (es : List (Key × X)) → shared_with [] es ≡ []
nothing_shared [] = refl
nothing_shared (e ∷ es) = nothing_shared es

no_byte : (k : Key) → length k ≡ 0 → k ≡ []
no_byte [] e = refl
no_byte (x ∷ xs) e = absurd (omega (arith, e))

pub apart_empty : (a b : Key) → length b ≡ 0 → shared a b ≡ []
apart_empty a b e = ap (shared a) (no_byte b e) ∙ shared_nothing a

pub no_prefix : {X : Type 0} (es rest : List (Key × X)) (f : Key) (n : ℕ) → n ≡ 0 → prefix_of es ≡ shared_with (take n f) rest → 0 ≡ length (prefix_of es)
no_prefix es rest f n z e = sym (ap length (e ∙ (ap (λ m. shared_with (take m f) rest) z ∙ nothing_shared rest)))
