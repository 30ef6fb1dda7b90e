-- What is spelled alike is alike, since the order tells values apart.
use Rattle.std.proofs.Common.{◌≡◌, ℕ, List, [], ◌∷◌, ◌++◌, refl, sym, ap, ◌∙◌, append_assoc}
use Rattle.std.proofs.lemmas.List.Concat.{flat_map-append}
use Rattle.std.proofs.lemmas.Map.Lookups.{exact_unsigned, exact_bytes}
use Rattle.std.specs.Ordering.{ordering_then, nat_cmp}
use Rattle.std.specs.declared.cmp.Ordering.{Ordering}
use Rattle.std.specs.declared.cmp.Ordering.TheVariants.{Less, Equal, Greater}
use Rattle.sled_nodes.specs.Order.{Key, key_cmp}
use Rattle.ordered_keys.specs.declared.part.Kind.{Kind}
use Rattle.ordered_keys.specs.declared.part.Part.{Part}
use Rattle.ordered_keys.specs.declared.part.Part.TheVariants.{Number, Text}
use Rattle.ordered_keys.specs.Keys.{spelled_byte, spelled_part, spelled, part_cmp, IsOfKind, BeginsWith, IsOneToOne, KeepsPrefixes}
use Rattle.sled_nodes.proofs.Fronts.{bytes_cmp, tied_same}
use Rattle.ordered_keys.proofs.Bytes.{byte_then, end_before}
use Rattle.ordered_keys.proofs.Order.{Fits, begins_fits, part_some, part_then}

then_equal : (o r : Ordering) → ordering_then o r ≡ Equal → (o ≡ Equal) × (r ≡ Equal)
then_equal Less r e = absurd cc
then_equal Equal r e = (refl, e)
then_equal Greater r e = absurd cc

pub byte_apart : (b c : ℕ) (x y : Key) → spelled_byte b ++ x ≡ spelled_byte c ++ y → (b ≡ c) × (x ≡ y)
byte_apart b c x y e =
    let both = then_equal (nat_cmp b c) (bytes_cmp x y) (sym (byte_then b c x y) ∙ tied_same (spelled_byte b ++ x) (spelled_byte c ++ y) e) in
    (exact_unsigned b c both.0, exact_bytes x y both.1)

-- a byte is not the end
pub end_apart : (c : ℕ) (x z : Key) → 0 ∷ 0 ∷ x ≡ spelled_byte c ++ z → ⊥
end_apart c x z e = let less : Less ≡ Equal = sym (end_before c x z) ∙ tied_same (0 ∷ 0 ∷ x) (spelled_byte c ++ z) e in cc

part_exact : (p q : Part) → part_cmp p q ≡ Equal → p ≡ q
unfolding key_cmp
part_exact (Number m) (Number n) e = ap Number (exact_unsigned m n e)
part_exact (Text s) (Text t) e = ap Text (exact_bytes s t e)
part_exact (Number m) (Text t) e = absurd cc
part_exact (Text s) (Number n) e = absurd cc

pub part_apart : (kind : Kind) (p q : Part) (x y : Key) → IsOfKind kind p → IsOfKind kind q → spelled_part p ++ x ≡ spelled_part q ++ y → (p ≡ q) × (x ≡ y)
part_apart kind p q x y h i e =
    let both = then_equal (part_cmp p q) (bytes_cmp x y) (sym (part_then kind p q x y h i) ∙ tied_same (spelled_part p ++ x) (spelled_part q ++ y) e) in
    (part_exact p q both.0, exact_bytes x y both.1)

pub one_to_one : IsOneToOne
one_to_one [] [] [] x y h i e = (refl, e)
one_to_one [] [] (q ∷ b) x y h i e = absurd i
one_to_one [] (p ∷ a) b x y h i e = absurd h
one_to_one (k ∷ shape) [] b x y h i e = absurd h
one_to_one (k ∷ shape) (p ∷ a) [] x y h i e = absurd i
one_to_one (k ∷ shape) (p ∷ a) (q ∷ b) x y h i e =
    let first = part_apart k p q (spelled a ++ x) (spelled b ++ y) h.0 i.0 (sym (append_assoc (spelled_part p) (spelled a) x) ∙ (e ∙ append_assoc (spelled_part q) (spelled b) y)) in
    let others = one_to_one shape a b x y h.1 i.1 first.1 in
    let p-is : p ≡ q = first.0 in
    let a-is : a ≡ b = others.0 in
    (cc, others.1)

begins : (shape : List Kind) (key front : List Part) → Fits shape key → Fits shape front → (rest : Key) → spelled key ≡ spelled front ++ rest → BeginsWith key front
begins shape key [] h i rest e = (key, refl)
begins shape [] (q ∷ front) h i rest e =
    let some = part_some q (spelled front ++ rest) in
    let none : [] ≡ some.0 ∷ some.1 = e ∙ (append_assoc (spelled_part q) (spelled front) rest ∙ some.2) in
    absurd cc
begins [] (p ∷ key) (q ∷ front) h i rest e = absurd h
begins (k ∷ shape) (p ∷ key) (q ∷ front) h i rest e =
    let first = part_apart k p q (spelled key) (spelled front ++ rest) h.0 i.0 (e ∙ append_assoc (spelled_part q) (spelled front) rest) in
    let more = begins shape key front h.1 i.1 rest first.1 in
    let p-is : p ≡ q = first.0 in
    let key-is : key ≡ front ++ more.0 = more.1 in
    (more.0, cc)

pub keeps_prefixes : KeepsPrefixes
keeps_prefixes shape key front h i = (
  λ (b : BeginsWith (spelled key) (spelled front)). begins shape key front (begins_fits shape key h) (begins_fits shape front i) b.0 b.1,
  λ (b : BeginsWith key front). (spelled b.0, ap spelled b.1 ∙ flat_map-append spelled_part front b.0),
)
