-- What all keys of a list begin with, and the list without it.
use Rattle.std.specs.Prelude.{◌≡◌, ℕ, nat_eq, List, [], ◌∷◌, ◌++◌, map, drop, length, if◌then◌else◌}
use Rattle.sled_nodes.specs.Order.{Key}

-- what two byte strings both begin with, up to the first byte that differs
abbrev pub shared : Key → Key → Key
shared [] k = []
shared (x ∷ xs) [] = []
shared (x ∷ xs) (y ∷ ys) = if nat_eq x y then (x ∷ shared xs ys) else []

-- what a key and all keys of a list begin with
abbrev pub shared_with : {X : Type 0} → Key → List (Key × X) → Key
shared_with k [] = k
shared_with k (e ∷ es) = shared_with (shared k e.0) es

-- the longest beginning that all keys of a list have. Of no key it is empty, and of one it is that key
abbrev pub prefix_of : {X : Type 0} → List (Key × X) → Key
prefix_of [] = []
prefix_of (e ∷ es) = shared_with e.0 es

-- the entries with so many bytes fewer at the front of each key
abbrev pub cut : {X : Type 0} → ℕ → List (Key × X) → List (Key × X)
cut n es = map (λ e. (drop n e.0, e.1)) es

-- each key's rest behind that beginning, with what is at it
abbrev pub rests_of : {X : Type 0} → List (Key × X) → List (Key × X)
rests_of es = cut (length (prefix_of es)) es

-- the entries with these bytes before each key
abbrev pub behind : {X : Type 0} → Key → List (Key × X) → List (Key × X)
behind p es = map (λ e. (p ++ e.0, e.1)) es

-- nothing more can be taken from the keys, and of no entry nothing was
pub record IsStripped {X : Type 0} (p : Key) (es : List (Key × X)) : Type 0 where
  pub none : es ≡ [] → p ≡ []
  pub apart : prefix_of es ≡ []
