-- The node, the link or the changes of bytes, or why there are none: reading from the left, with the first flaw that is met.
use Rattle.std.specs.Prelude.{◌≡◌, ℕ, zero, suc, Bool, true, false, List, [], ◌∷◌, ◌++◌, length, take, drop, Option, Some, None, Result, Ok, Err, if◌then◌else◌, nat_eq, nat_lt}
use Rattle.std.specs.Int.{w64, from_le_bytes}
use Rattle.std.specs.List.{flat_map, All}
use Rattle.sled_nodes.specs.Order.{Key}
use Rattle.sled_nodes.specs.declared.node.Node.{Node}
use Rattle.sled_nodes.specs.declared.node.Data.{Data}
use Rattle.sled_nodes.specs.declared.node.Data.TheVariants.{Leaf, Index}
use Rattle.sled_nodes.specs.declared.link.Link.{Link}
use Rattle.sled_nodes.specs.declared.link.Link.TheVariants.{Set, Del, ParentMergeIntention, ParentMergeConfirm, ChildMergeCap}
use Rattle.sled_bytes.specs.declared.change.Change.{Change}
use Rattle.sled_bytes.specs.declared.change.Change.TheVariants.{Given, Linked, Freed, Rooted, Begun, Sealed, Marked, Limited}
use Rattle.sled_bytes.specs.declared.refusal.Flaw.{Flaw}
use Rattle.sled_bytes.specs.declared.refusal.Flaw.TheVariants.{Short, Unknown}
use Rattle.sled_bytes.specs.declared.refusal.Refusal.{Refusal}
use Rattle.sled_bytes.specs.declared.refusal.Refusal.TheVariants as refusals
use Rattle.sled_bytes.specs.Spelling.{node_bytes, change_bytes, FitsBytes, FitsChange}

-- what is read, and the bytes behind it
abbrev pub Read : Type 0 → Type 0
Read X = Result (X × List ℕ) Flaw

-- what was read goes to what comes next
abbrev pub then_read : {A B : Type 0} → Result A Flaw → (A → Result B Flaw) → Result B Flaw
then_read (Ok x) next = next x
then_read (Err flaw) next = Err flaw

-- a refusal is for memory, or has the flaw that reading gives
abbrev pub Fails : {Y : Type 0} → Refusal → Result Y Flaw → Type 0
Fails refusals.NoMemory read = Unit {0}
Fails (refusals.Flawed flaw) read = read ≡ Err flaw

-- what a function answered, seen by view, is what reading gives, unless it was refused for memory
abbrev pub Gives : {X Y : Type 0} → (X → Y) → Result X Refusal → Result Y Flaw → Type 0
Gives view (Ok x) read = read ≡ Ok (view x)
Gives view (Err e) read = Fails e read

-- the same of a value and how many of the bytes it takes, behind which the others are
abbrev pub Takes : {X : Type 0} → List ℕ → Result (X × ℕ) Refusal → Read X → Type 0
Takes bytes answer read = Gives (λ x. (x.0, drop x.1 bytes)) answer read

abbrev pub number_at : List ℕ → Read ℕ
number_at bytes = if nat_lt (length bytes) 8 then Err Short else Ok (from_le_bytes w64 (take 8 bytes), drop 8 bytes)

-- so many bytes
abbrev pub bytes_at : ℕ → List ℕ → Read Key
bytes_at n bytes = if nat_lt (length bytes) n then Err Short else Ok (take n bytes, drop n bytes)

unfoldable pub string_at : List ℕ → Read Key
string_at bytes =
    then_read (number_at bytes) (λ n.
    bytes_at n.0 n.1)

unfoldable pub byte_at : List ℕ → Read ℕ
byte_at [] = Err Short
byte_at (b ∷ rest) = Ok (b, rest)

abbrev pub truth : ℕ → Result Bool Flaw
truth b = if nat_eq b 0 then Ok false else if nat_eq b 1 then Ok true else Err Unknown

unfoldable pub flag_at : List ℕ → Read Bool
flag_at bytes =
    then_read (byte_at bytes) (λ b.
    then_read (truth b.0) (λ is.
    Ok (is, b.1)))

unfoldable pub optional_at : List ℕ → Read (Option ℕ)
optional_at bytes =
    then_read (flag_at bytes) (λ some.
    if some.0 then then_read (number_at some.1) (λ n. Ok (Some n.0, n.1)) else Ok (None, some.1))

unfoldable pub pair_at : List ℕ → Read (Key × Key)
pair_at bytes =
    then_read (string_at bytes) (λ key.
    then_read (string_at key.1) (λ value.
    Ok ((key.0, value.0), value.1)))

unfoldable pub pointer_at : List ℕ → Read (Key × ℕ)
pointer_at bytes =
    then_read (string_at bytes) (λ key.
    then_read (number_at key.1) (λ pid.
    Ok ((key.0, pid.0), pid.1)))

-- so many of them, one after the other
unfoldable pub each_at : {X : Type 0} → (List ℕ → Read X) → ℕ → List ℕ → Read (List X)
each_at one zero bytes = Ok ([], bytes)
each_at one (suc n) bytes =
    then_read (one bytes) (λ first.
    then_read (each_at one n first.1) (λ others.
    Ok (first.0 ∷ others.0, others.1)))

unfoldable pub leaf_at : List ℕ → Read Data
leaf_at bytes =
    then_read (number_at bytes) (λ n.
    then_read (each_at pair_at n.0 n.1) (λ es.
    Ok (Leaf es.0, es.1)))

unfoldable pub index_at : List ℕ → Read Data
index_at bytes =
    then_read (number_at bytes) (λ n.
    then_read (each_at pointer_at n.0 n.1) (λ es.
    Ok (Index es.0, es.1)))

unfoldable pub content_at : List ℕ → Read Data
content_at bytes =
    then_read (flag_at bytes) (λ is_index.
    if is_index.0 then index_at is_index.1 else leaf_at is_index.1)

unfoldable pub node_at : List ℕ → Read Node
node_at bytes =
    then_read (string_at bytes) (λ lo.
    then_read (string_at lo.1) (λ hi.
    then_read (optional_at hi.1) (λ next.
    then_read (flag_at next.1) (λ merging.
    then_read (optional_at merging.1) (λ child.
    then_read (content_at child.1) (λ content.
    Ok (record { lo = lo.0; hi = hi.0; next = next.0; merging = merging.0; merging_child = child.0; content = content.0 }, content.1)))))))

unfoldable pub set_at : List ℕ → Read Link
set_at bytes =
    then_read (pair_at bytes) (λ e.
    Ok (Set e.0.0 e.0.1, e.1))

unfoldable pub del_at : List ℕ → Read Link
del_at bytes =
    then_read (string_at bytes) (λ key.
    Ok (Del key.0, key.1))

unfoldable pub intention_at : List ℕ → Read Link
intention_at bytes =
    then_read (number_at bytes) (λ child.
    Ok (ParentMergeIntention child.0, child.1))

unfoldable pub link_of_kind : ℕ → List ℕ → Read Link
link_of_kind kind bytes =
    if nat_eq kind 1 then set_at bytes
    else if nat_eq kind 2 then del_at bytes
    else if nat_eq kind 3 then intention_at bytes
    else if nat_eq kind 4 then Ok (ParentMergeConfirm, bytes)
    else if nat_eq kind 5 then Ok (ChildMergeCap, bytes)
    else Err Unknown

unfoldable pub link_at : List ℕ → Read Link
link_at bytes =
    then_read (byte_at bytes) (λ kind.
    link_of_kind kind.0 kind.1)

unfoldable pub given_at : List ℕ → Read Change
given_at bytes =
    then_read (number_at bytes) (λ pid.
    then_read (number_at pid.1) (λ version.
    then_read (node_at version.1) (λ node.
    Ok (Given pid.0 version.0 node.0, node.1))))

unfoldable pub linked_at : List ℕ → Read Change
linked_at bytes =
    then_read (number_at bytes) (λ pid.
    then_read (number_at pid.1) (λ version.
    then_read (link_at version.1) (λ link.
    Ok (Linked pid.0 version.0 link.0, link.1))))

unfoldable pub freed_at : List ℕ → Read Change
freed_at bytes =
    then_read (number_at bytes) (λ pid.
    Ok (Freed pid.0, pid.1))

unfoldable pub rooted_at : List ℕ → Read Change
rooted_at bytes =
    then_read (string_at bytes) (λ name.
    then_read (optional_at name.1) (λ root.
    Ok (Rooted name.0 root.0, root.1)))

unfoldable pub marked_at : List ℕ → Read Change
marked_at bytes =
    then_read (number_at bytes) (λ upto.
    Ok (Marked upto.0, upto.1))

unfoldable pub limited_at : List ℕ → Read Change
limited_at bytes =
    then_read (number_at bytes) (λ pids.
    then_read (number_at pids.1) (λ versions.
    Ok (Limited pids.0 versions.0, versions.1)))

unfoldable pub change_of_kind : ℕ → List ℕ → Read Change
change_of_kind kind bytes =
    if nat_eq kind 1 then given_at bytes
    else if nat_eq kind 2 then linked_at bytes
    else if nat_eq kind 3 then freed_at bytes
    else if nat_eq kind 4 then rooted_at bytes
    else if nat_eq kind 5 then Ok (Begun, bytes)
    else if nat_eq kind 6 then Ok (Sealed, bytes)
    else if nat_eq kind 7 then marked_at bytes
    else if nat_eq kind 8 then limited_at bytes
    else Err Unknown

unfoldable pub change_at : List ℕ → Read Change
change_at bytes =
    then_read (byte_at bytes) (λ kind.
    change_of_kind kind.0 kind.1)

-- All changes up to the end of the bytes. Each takes a byte at least, so the number, which bounds them, is never used up if
-- it is that of the bytes.
unfoldable pub changes_from : List ℕ → ℕ → Result (List Change) Flaw
changes_from [] most = Ok []
changes_from (b ∷ bytes) zero = Err Short
changes_from (b ∷ bytes) (suc most) =
    then_read (change_at (b ∷ bytes)) (λ first.
    then_read (changes_from first.1 most) (λ others.
    Ok (first.0 ∷ others)))

unfoldable pub changes_of : List ℕ → Result (List Change) Flaw
changes_of bytes = changes_from bytes (length bytes)

-- what is written of a node is read again, whatever follows it
abbrev pub NodeIsReadAgain : Type 0
NodeIsReadAgain = (n : Node) (rest : List ℕ) → FitsBytes n → node_at (node_bytes n ++ rest) ≡ Ok (n, rest)

-- and so of a change
abbrev pub ChangeIsReadAgain : Type 0
ChangeIsReadAgain = (c : Change) (rest : List ℕ) → FitsChange c → change_at (change_bytes c ++ rest) ≡ Ok (c, rest)

-- what is written of changes, one after the other, is read as these changes
abbrev pub ChangesAreReadAgain : Type 0
ChangesAreReadAgain = (cs : List Change) → All FitsChange cs → changes_of (flat_map change_bytes cs) ≡ Ok cs
