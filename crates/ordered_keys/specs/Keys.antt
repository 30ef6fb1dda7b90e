-- Keys of several parts, the bytes that spell them, and their order.
use Rattle.std.specs.Prelude.{◌≡◌, ◌↔◌, ℕ, zero, suc, ◌^◌, ◌<◌, ◌++◌, List, [], ◌∷◌}
use Rattle.std.specs.Int.{to_be_bytes, w64}
use Rattle.std.specs.List.{flat_map}
use Rattle.std.specs.Ordering.{nat_cmp}
use Rattle.std.specs.Cmp.Lexicographic.{slice_cmp}
use Rattle.std.specs.declared.cmp.Ordering.{Ordering}
use Rattle.std.specs.declared.cmp.Ordering.TheVariants.{Less, Greater}
use Rattle.sled_nodes.specs.Order.{Key, key_cmp}
use Rattle.ordered_keys.specs.declared.part.Kind.{Kind}
use Rattle.ordered_keys.specs.declared.part.Kind.TheVariants as kinds
use Rattle.ordered_keys.specs.declared.part.Part.{Part}
use Rattle.ordered_keys.specs.declared.part.Part.TheVariants.{Number, Text}

-- a byte of a text: itself, but 0 is followed by 255
abbrev pub spelled_byte : ℕ → Key
spelled_byte zero = 0 ∷ 255 ∷ []
spelled_byte (suc b) = suc b ∷ []

-- the bytes of a text, and then 0, 0
unfoldable pub spelled_text : Key → Key
spelled_text text = flat_map spelled_byte text ++ 0 ∷ 0 ∷ []

-- a number of 64 bits in eight bytes, the highest first
unfoldable pub spelled_number : ℕ → Key
spelled_number n = to_be_bytes w64 n

abbrev pub spelled_part : Part → Key
spelled_part (Number n) = spelled_number n
spelled_part (Text text) = spelled_text text

-- the parts one after the other
abbrev pub spelled : List Part → Key
spelled = flat_map spelled_part

-- numbers by size, texts by their bytes; parts of two kinds are not kept in one place of a key
abbrev pub part_cmp : Part → Part → Ordering
part_cmp (Number m) (Number n) = nat_cmp m n
part_cmp (Text s) (Text t) = key_cmp s t
part_cmp (Number m) (Text t) = Less
part_cmp (Text s) (Number n) = Greater

-- by the first part that differs, and a prefix is less than what it is a prefix of
abbrev pub parts_cmp : List Part → List Part → Ordering
parts_cmp = slice_cmp part_cmp

-- a part of the kind, and a number has 64 bits
abbrev pub IsOfKind : Kind → Part → Type 0
IsOfKind kinds.Number (Number n) = n < 2 ^ 64
IsOfKind kinds.Text (Text text) = Unit {0}
IsOfKind kinds.Number (Text text) = ⊥
IsOfKind kinds.Text (Number n) = ⊥

-- a part of each kind, in order
abbrev pub HasShape : List Kind → List Part → Type 0
HasShape [] [] = Unit {0}
HasShape (kind ∷ shape) (part ∷ parts) = IsOfKind kind part × HasShape shape parts
HasShape [] (part ∷ parts) = ⊥
HasShape (kind ∷ shape) [] = ⊥

-- the list goes on from this one
abbrev pub BeginsWith : {A : Type 0} → List A → List A → Type 0
BeginsWith {A} list front = (rest : List A) × (list ≡ front ++ rest)

-- the first parts of some key of the shape
abbrev pub BeginsKey : List Kind → List Part → Type 0
BeginsKey shape parts = (more : List Part) × HasShape shape (parts ++ more)

-- the order of the bytes is that of the parts
abbrev pub KeepsOrder : Type 0
KeepsOrder = (shape : List Kind) (a b : List Part) → BeginsKey shape a → BeginsKey shape b → key_cmp (spelled a) (spelled b) ≡ parts_cmp a b

-- no key of a shape begins another, whatever follows the two; so no two keys are spelled alike
abbrev pub IsOneToOne : Type 0
IsOneToOne = (shape : List Kind) (a b : List Part) (x y : Key) → HasShape shape a → HasShape shape b → spelled a ++ x ≡ spelled b ++ y → (a ≡ b) × (x ≡ y)

-- the bytes begin with those of other parts exactly if the parts begin with these
abbrev pub KeepsPrefixes : Type 0
KeepsPrefixes = (shape : List Kind) (key front : List Part) → BeginsKey shape key → BeginsKey shape front → (BeginsWith (spelled key) (spelled front) ↔ BeginsWith key front)
