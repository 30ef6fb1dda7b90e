-- What is printed, piece by piece.
use Rattle.std.proofs.Common.{◌≡◌, ℕ, List, [], ◌++◌, Option, Some, None, sym, ap, append_assoc, ◌+◌, ◌-◌, ◌^◌, ◌<◌, min, length, get_or, map, take, ◌∙◌, arith, append-nil}
use Rattle.std.specs.Io.KnownBytes.{Appends, append_known, Keeps}
use Rattle.std.specs.List.{flat_map, sum, sum_by}
use Rattle.std.proofs.lemmas.List.Folds.{flat_map-map}
use Rattle.std.proofs.lemmas.List.Sums.{sum-map, sum_by_more}
use Rattle.std.proofs.lemmas.Simd.{map-map}
use Rattle.sled_nodes.specs.Order.{Key}
use Rattle.sled_model.specs.Maps.{Map}
use Rattle.std.proofs.KnownBytes.{Appends-nil, Appends-trans}
use Rattle.line_words.specs.Print.{Prints, collection_lines, end_line, dump_text}

-- nothing
pub prints_none : (held : Option (List ℕ)) (gathered : List ℕ) → Prints held gathered held gathered []
prints_none held gathered = record { is = Appends-nil (append_known held gathered) }

-- one piece after the other
pub prints_then : (a b c : Option (List ℕ)) (o p q bs cs : List ℕ) → Prints a o b p bs → Prints b p c q cs → Prints a o c q (bs ++ cs)
prints_then a b c o p q bs cs first second = record { is = Appends-trans (append_known a o) (append_known b p) (append_known c q) bs cs first.is second.is }

onto : (held : Option (List ℕ)) (gathered bytes : List ℕ) → Appends (append_known held gathered) (append_known held (gathered ++ bytes)) bytes
onto None gathered bytes = tt
onto (Some xs) gathered bytes = sym (append_assoc xs gathered bytes)

-- bytes that are gathered
pub prints_onto : (held : Option (List ℕ)) (gathered gathered_then bytes : List ℕ) → gathered_then ≡ gathered ++ bytes → Prints held gathered held gathered_then bytes
prints_onto held gathered gathered_then bytes e = rw e (record { is = onto held gathered bytes })

written : (held held_then : Option (List ℕ)) (gathered : List ℕ) → Appends held held_then gathered → Appends (append_known held gathered) (append_known held_then []) []
written None held_then gathered a = tt
written (Some xs) None gathered a = absurd a
written (Some xs) (Some ys) gathered a = ap (λ l. l ++ []) a

-- bytes that were gathered and are written
pub prints_written : (held held_then : Option (List ℕ)) (gathered gathered_then : List ℕ) → gathered_then ≡ [] → Appends held held_then gathered → Prints held gathered held_then gathered_then []
prints_written held held_then gathered gathered_then e a = rw e (record { is = written held held_then gathered a })

kept : (held held_then : Option (List ℕ)) (gathered : List ℕ) → Keeps held held_then → Appends (append_known held gathered) (append_known held_then gathered) []
kept None held_then gathered k = tt
kept (Some xs) None gathered k = absurd k
kept (Some xs) (Some ys) gathered k = ap (λ l. l ++ gathered) k ∙ sym (append-nil (xs ++ gathered))

-- what is gathered stays, and what is held
pub prints_kept : (held held_then : Option (List ℕ)) (gathered gathered_then : List ℕ) → Keeps held held_then → gathered_then ≡ gathered → Prints held gathered held_then gathered_then []
prints_kept held held_then gathered gathered_then k e = rw e (record { is = kept held held_then gathered k })

-- ---- all pairs

capped : (a b m : ℕ) → min (min a m + b) m ≡ min (a + b) m
capped a b m = omega arith

-- the count with one more
pub counted_more : {X : Type 0} (xs : List X) (i : ℕ) (x : X) (f : X → ℕ) (count next m : ℕ) → i < length xs → x ≡ get_or xs i x → count ≡ min (sum_by f (take i xs)) m → next ≡ min (count + f x) m
    → next ≡ min (sum_by f (take (i + 1) xs)) m
counted_more xs i x f count next m inside is before now =
    let more : sum_by f (take (i + 1) xs) ≡ sum_by f (take i xs) + f x = sum_by_more f xs i x inside ∙ ap (λ y. sum_by f (take i xs) + f y) (sym is) in
    now ∙ (ap (λ n. min (n + f x) m) before ∙ (capped (sum_by f (take i xs)) (f x) m ∙ sym (ap (λ n. min n m) more)))

sum_by-map : {X Y : Type 0} (f : Y → ℕ) (v : X → Y) (xs : List X) → sum_by f (map v xs) ≡ sum_by (λ x. f (v x)) xs
sum_by-map f v xs = sym (sum-map f (map v xs)) ∙ (ap sum (map-map f v xs) ∙ sum-map (λ x. f (v x)) xs)

-- the lines of all pairs and the count are the text of a dump
pub dumped : {X : Type 0} (xs : List X) (v : X → Key × Key × Map) (count : ℕ) → count ≡ min (sum_by (λ x. length (v x).2) xs) (2 ^ 64 - 1)
    → flat_map (λ x. collection_lines (v x)) xs ++ end_line count ≡ dump_text (map v xs)
dumped xs v count is =
    ap (λ l. l ++ end_line count) (sym (flat_map-map collection_lines v xs))
    ∙ ap (λ n. flat_map collection_lines (map v xs) ++ end_line n) (is ∙ ap (λ n. min n (2 ^ 64 - 1)) (sym (sum_by-map (λ (c : Key × Key × Map). length c.2) v xs)))
