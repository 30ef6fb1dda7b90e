-- Lists that have something.
use Rattle.std.proofs.Common.{List, [], ◌∷◌, map, ap, inl, inr}
use Rattle.sled_store.specs.In.{In}

pub map_in : {A B : Type 0} (f : A → B) (xs : List A) (x : A) → In x xs → In (f x) (map f xs)
map_in f [] x i = absurd i
map_in f (y ∷ xs) x (inl e) = inl (ap f e)
map_in f (y ∷ xs) x (inr i) = inr (map_in f xs x i)
