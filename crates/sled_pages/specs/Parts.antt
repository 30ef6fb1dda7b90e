-- A page as it is kept: a base node, and the links since, at most 8.
use Rattle.std.specs.Prelude.{◌≡◌, ℕ, Result, Ok, Err, ◌-◌, nat_lt, not, take, Bool, List, [], ◌∷◌, ◌++◌, length, Option, option_map, if◌then◌else◌}
use Rattle.std.proofs.Common.{Bor}
use Rattle.sled_nodes.specs.Node.{after_link}
use Rattle.sled_store.specs.Update.{put_at}
use Rattle.sled_nodes.specs.declared.node.Node.{Node}
use Rattle.sled_nodes.specs.declared.link.Link.{Link}

-- the base, and the links, the first of them first
abbrev pub Parts : Type 0
Parts = Node × List Link

-- a node after links, the first of them first
abbrev pub after_links : List Link → Node → Node
after_links [] n = n
after_links (l ∷ ls) n = after_links ls (after_link l n)

-- the node that a page stands for
abbrev pub node_of : Parts → Node
node_of p = after_links p.1 p.0

-- a page that is a base without links
abbrev pub alone : Node → Parts
alone n = (n, [])

-- a page that has 8 links takes no more
abbrev pub is_full : Parts → Bool
is_full p = not (nat_lt (length p.1) 8)

-- a page after a link: it goes last, but if there are 8 the base becomes the node after all nine
abbrev pub linked : Link → Parts → Parts
linked link p = if is_full p then (after_link link (node_of p), []) else (p.0, p.1 ++ link ∷ [])

-- a page without its last link
abbrev pub unlinked : Parts → Parts
unlinked p = (p.0, take (length p.1 - 1) p.1)

abbrev pub changes_parts_as : {X : Type 0} → (Option Parts → Option Parts) → ℕ → (ℕ → Option Parts) → (ℕ → Option Parts) → Result X (Option ℕ) → Type 0
changes_parts_as becomes pid old new (Ok done) = new ≡ put_at old pid (becomes (old pid))
changes_parts_as becomes pid old new (Err present) = new ≡ old

-- the parts of a page that was changed become others; of all others, and if it was not, they stay
pub record ChangesParts {X : Type 0} (becomes : Option Parts → Option Parts) (pid : ℕ) (old new : ℕ → Option Parts) (answer : Result X (Option ℕ)) : Type 0 where
  pub is : changes_parts_as becomes pid old new answer

-- the base and the links, as they are lent
abbrev pub parts_lent : Option (Bor Node × Bor (List Link)) → Option Parts
parts_lent = option_map (λ (b : Bor Node × Bor (List Link)). (b.0.now, b.1.now))
