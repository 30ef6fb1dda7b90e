-- Collections are the same where their contents are.
use Rattle.std.proofs.Common.{◌≡◌, ℕ, Bool, ◌&&◌, nat_eq, List, [], ◌∷◌, refl, ap}
use Rattle.std.specs.Cmp.Lexicographic.{pointwise}
use Rattle.std.specs.Global.{Vec}
use Rattle.std.specs.Str.{bytes_eq}
use Rattle.sled_nodes.specs.Order.{Key}
use Rattle.sled_model.specs.Collections.{Content, contents_of}

-- whether both are of one kind, and have one name and the same pairs
abbrev pub same_content : Content → Content → Bool
same_content a b = (bytes_eq a.0 b.0 && bytes_eq a.1 b.1) && pointwise (λ (p q : Key × Key). bytes_eq p.0 q.0 && bytes_eq p.1 q.1) a.2 b.2

abbrev pub same_collection : Vec ℕ × Vec ℕ × Vec (Key × Key) → Vec ℕ × Vec ℕ × Vec (Key × Key) → Bool
same_collection a b = (pointwise nat_eq a.0.items b.0.items && pointwise nat_eq a.1.items b.1.items) && pointwise (λ (p q : Key × Key). bytes_eq p.0 q.0 && bytes_eq p.1 q.1) a.2.items b.2.items

pub same_contents : (xs ys : List (Vec ℕ × Vec ℕ × Vec (Key × Key))) → pointwise same_collection xs ys ≡ pointwise same_content (contents_of xs) (contents_of ys)
same_contents [] [] = refl
same_contents [] (y ∷ ys) = refl
same_contents (x ∷ xs) [] = refl
same_contents (x ∷ xs) (y ∷ ys) = ap (λ z. same_collection x y && z) (same_contents xs ys)
