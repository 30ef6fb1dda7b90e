-- Links put together with their base.
use Rattle.std.proofs.Common.{◌≡◌, ℕ, ◌+◌, ◌<◌, List, [], ◌∷◌, ◌++◌, length, take, get_or, sym, ap, subst, ◌∙◌, add-one}
use Rattle.std.proofs.Math.Seq.{take-suc}
use Rattle.sled_nodes.specs.Node.{after_link}
use Rattle.sled_nodes.specs.declared.link.Link.{Link}
use Rattle.sled_nodes.specs.declared.node.Node.{Node}
use Rattle.sled_pages.specs.Parts.{Parts, after_links, node_of}
use Rattle.sled_pages.specs.theory.Parts.{is_ready_as}
use Rattle.sled_pages.specs.declared.memory.linked.Below.{Below}
use Rattle.sled_pages.specs.declared.memory.linked.Below.TheVariants.{Joined}
use Rattle.sled_pages.proofs.Linked.{after_last_link}

pub join_more : (links : List Link) (base : Node) (i : ℕ) (d x : Link) (n n' : Node) → i < length links → x ≡ get_or links i d → n ≡ after_links (take i links) base → n' ≡ after_link x n → n' ≡ after_links (take (i + 1) links) base
join_more links base i d x n n' h e k m = rw add-one (
    m ∙ (ap (λ y. after_link y n) e ∙ (ap (after_link (get_or links i d)) k ∙ (sym (after_last_link (take i links) (get_or links i d) base) ∙ ap (λ ls. after_links ls base) (sym (take-suc links i d h))))))

-- one link more
pub joined_more : (n n' : Node) (p p' : Parts) (link : Link) → n ≡ node_of p → n' ≡ after_link link n → p' ≡ (p.0, p.1 ++ link ∷ []) → n' ≡ node_of p'
joined_more n n' p p' link k m e = m ∙ (ap (after_link link) k ∙ (sym (after_last_link p.1 link p.0) ∙ ap node_of (sym e)))

-- the node of a page that is joined
pub ready_joins : (n : Node) (b : Below) (p : Parts) → is_ready_as n b → b ≡ Joined p → n ≡ node_of p
ready_joins n b p h e = subst (is_ready_as n) e h
