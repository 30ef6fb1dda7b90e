-- Reading the parts of a key, one by one.
use Rattle.std.proofs.Common.{◌≡◌, ◌≢◌, ℕ, ◌+◌, ◌<◌, ◌≤◌, List, [], ◌∷◌, ◌++◌, take, drop, length, get_or, sym, ap, subst, ◌∙◌, append_assoc}
use Rattle.std.proofs.lemmas.List.{take_more, take_all, take-append-drop, append-nil}
use Rattle.sled_nodes.specs.Order.{Key}
use Rattle.ordered_keys.specs.declared.part.Kind.{Kind}
use Rattle.ordered_keys.specs.declared.part.Part.{Part}
use Rattle.ordered_keys.specs.Keys.{spelled_part, spelled, IsOfKind, HasShape}
use Rattle.ordered_keys.proofs.Apart.{part_apart, one_to_one}
use Rattle.ordered_keys.proofs.Reading.{read_more}

one_more : (front : List Kind) (done : List Part) (kind : Kind) (part : Part) → HasShape front done → IsOfKind kind part → HasShape (front ++ kind ∷ []) (done ++ part ∷ [])
one_more [] [] kind part h i = (i, tt)
one_more [] (p ∷ done) kind part h i = absurd h
one_more (k ∷ front) [] kind part h i = absurd h
one_more (k ∷ front) (p ∷ done) kind part h i = (h.0, one_more front done kind part h.1 i)

-- one part more was read
pub parts_more : (shape : List Kind) (at : ℕ) (d : Kind) (done new : List Part) (part : Part) (rest others key : Key) → at < length shape
    → HasShape (take at shape) done × (spelled done ++ rest ≡ key) → IsOfKind (get_or shape at d) part × (rest ≡ spelled_part part ++ others) → new ≡ done ++ part ∷ []
    → HasShape (take (at + 1) shape) new × (spelled new ++ others ≡ key)
parts_more shape at d done new part rest others key lt so read pushed =
    let kind = get_or shape at d in
    let front : take (at + 1) shape ≡ take at shape ++ kind ∷ [] = take_more shape at d lt in
    let has : HasShape (take at shape ++ kind ∷ []) (done ++ part ∷ []) = one_more (take at shape) done kind part so.0 read.0 in (
      rw (front, pushed) has,
      read_more {X = Part} spelled_part done new part rest others key so.1 read.1 pushed,
    )

-- what follows the parts that were read begins with the next part of the key
resume : (front more : List Kind) (kind : Kind) (done all : List Part) (rest : Key) → HasShape front done → HasShape (front ++ kind ∷ more) all → spelled done ++ rest ≡ spelled all → (part : Part) × (z : Key) × IsOfKind kind part × (rest ≡ spelled_part part ++ z)
resume [] more kind [] [] rest h i e = absurd i
resume [] more kind [] (p ∷ all) rest h i e = (p, spelled all, i.0, e)
resume [] more kind (d ∷ done) all rest h i e = absurd h
resume (k ∷ front) more kind [] all rest h i e = absurd h
resume (k ∷ front) more kind (d ∷ done) [] rest h i e = absurd i
resume (k ∷ front) more kind (d ∷ done) (p ∷ all) rest h i e =
    resume front more kind done all rest h.1 i.1 (part_apart k d p (spelled done ++ rest) (spelled all) h.0 i.0 (sym (append_assoc (spelled_part d) (spelled done) rest) ∙ e)).1

-- where no part of the kind comes next, the bytes are no key
pub parts_stop : (shape : List Kind) (at : ℕ) (d : Kind) (done : List Part) (rest key : Key) → at < length shape
    → HasShape (take at shape) done × (spelled done ++ rest ≡ key) → ((part : Part) (z : Key) → IsOfKind (get_or shape at d) part → rest ≢ spelled_part part ++ z)
    → (parts : List Part) → HasShape shape parts → key ≢ spelled parts
parts_stop shape at d done rest key lt so none parts has e =
    let kind = get_or shape at d in
    let front : take (at + 1) shape ≡ take at shape ++ kind ∷ [] = take_more shape at d lt in
    let split : shape ≡ take at shape ++ kind ∷ drop (at + 1) shape =
    sym (take-append-drop (at + 1) shape) ∙ (ap (λ (ks : List Kind). ks ++ drop (at + 1) shape) front ∙ append_assoc (take at shape) (kind ∷ []) (drop (at + 1) shape)) in
    let there : HasShape (take at shape ++ kind ∷ drop (at + 1) shape) parts = subst (λ (ks : List Kind). HasShape ks parts) split has in
    let next = resume (take at shape) (drop (at + 1) shape) kind done parts rest so.0 there (so.1 ∙ e) in
    none next.0 next.1 next.2 next.3

-- where bytes are left, the bytes are no key
pub parts_left : (shape : List Kind) (at : ℕ) (done : List Part) (rest key : Key) → length shape ≤ at → rest ≢ [] → HasShape (take at shape) done × (spelled done ++ rest ≡ key)
    → (parts : List Part) → HasShape shape parts → key ≢ spelled parts
parts_left shape at done rest key le some so parts has e =
    let whole : take at shape ≡ shape = take_all at shape le in
    let here : HasShape shape done = rw whole at so.0 in
    some (one_to_one shape done parts rest [] here has (so.1 ∙ (e ∙ sym (append-nil (spelled parts))))).1
