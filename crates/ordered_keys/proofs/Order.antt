-- The order of the bytes of keys is that of their parts.
use Rattle.std.proofs.Common.{◌≡◌, ℕ, zero, suc, List, [], ◌∷◌, ◌++◌, refl, ap, ◌∙◌}
use Rattle.std.specs.Int.{byte_at, bytes_high_first}
use Rattle.std.specs.List.{flat_map}
use Rattle.std.specs.Ordering.{ordering_then}
use Rattle.sled_nodes.specs.Order.{Key, key_cmp}
use Rattle.ordered_keys.specs.declared.part.Kind.{Kind}
use Rattle.ordered_keys.specs.declared.part.Kind.TheVariants as kinds
use Rattle.ordered_keys.specs.declared.part.Part.{Part}
use Rattle.ordered_keys.specs.declared.part.Part.TheVariants.{Number, Text}
use Rattle.ordered_keys.specs.Keys.{spelled_byte, spelled_text, spelled_number, spelled_part, spelled, part_cmp, parts_cmp, IsOfKind, HasShape, BeginsKey, KeepsOrder}
use Rattle.sled_nodes.proofs.Fronts.{bytes_cmp}
use Rattle.ordered_keys.proofs.Bytes.{number_then, text_then}

-- parts of the first kinds of the shape
abbrev pub Fits : List Kind → List Part → Type 0
Fits shape [] = Unit {0}
Fits [] (part ∷ parts) = ⊥
Fits (kind ∷ shape) (part ∷ parts) = IsOfKind kind part × Fits shape parts

fits : (shape : List Kind) (parts more : List Part) → HasShape shape (parts ++ more) → Fits shape parts
fits shape [] more h = tt
fits [] (p ∷ parts) more h = absurd h
fits (k ∷ shape) (p ∷ parts) more h = (h.0, fits shape parts more h.1)

pub begins_fits : (shape : List Kind) (parts : List Part) → BeginsKey shape parts → Fits shape parts
begins_fits shape parts h = fits shape parts h.0 h.1

text_some : (t z : Key) → (b : ℕ) × (rest : Key) × (spelled_text t ++ z ≡ b ∷ rest)
unfolding spelled_text
text_some [] z = (0, 0 ∷ z, refl)
text_some (zero ∷ t) z = (0, 255 ∷ ((flat_map spelled_byte t ++ 0 ∷ 0 ∷ []) ++ z), refl)
text_some (suc c ∷ t) z = (suc c, (flat_map spelled_byte t ++ 0 ∷ 0 ∷ []) ++ z, refl)

-- no part is spelled by nothing
pub part_some : (p : Part) (z : Key) → (b : ℕ) × (rest : Key) × (spelled_part p ++ z ≡ b ∷ rest)
unfolding spelled_number
part_some (Number n) z = (byte_at 7 n, bytes_high_first 7 n ++ z, refl)
part_some (Text t) z = text_some t z

pub part_then : (kind : Kind) (p q : Part) (x y : Key) → IsOfKind kind p → IsOfKind kind q → bytes_cmp (spelled_part p ++ x) (spelled_part q ++ y) ≡ ordering_then (part_cmp p q) (bytes_cmp x y)
unfolding key_cmp
part_then kinds.Number (Number m) (Number n) x y h i = number_then m n x y h i
part_then kinds.Text (Text s) (Text t) x y h i = text_then s t x y
part_then kinds.Number (Number m) (Text t) x y h i = absurd i
part_then kinds.Number (Text s) q x y h i = absurd h
part_then kinds.Text (Number m) q x y h i = absurd h
part_then kinds.Text (Text s) (Number n) x y h i = absurd i

fitting : (shape : List Kind) (a b : List Part) → Fits shape a → Fits shape b → bytes_cmp (spelled a) (spelled b) ≡ parts_cmp a b
fitting shape [] [] h i = refl
fitting shape [] (q ∷ b) h i = ap (bytes_cmp []) (part_some q (spelled b)).2
fitting shape (p ∷ a) [] h i = ap (λ (z : Key). bytes_cmp z []) (part_some p (spelled a)).2
fitting [] (p ∷ a) (q ∷ b) h i = absurd h
fitting (k ∷ shape) (p ∷ a) (q ∷ b) h i = part_then k p q (spelled a) (spelled b) h.0 i.0 ∙ ap (ordering_then (part_cmp p q)) (fitting shape a b h.1 i.1)

pub keeps_order : KeepsOrder
unfolding key_cmp
keeps_order shape a b h i = fitting shape a b (begins_fits shape a h) (begins_fits shape b i)
