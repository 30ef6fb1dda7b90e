use Rattle.std.proofs.Common.{◌≡◌, nat_le, true, ◌&&◌}
use Rattle.std.specs.List.{list_all}
use Rattle.sled_nodes.proofs.Basics.{first_true, second_true}
use Rattle.sled_nodes.specs.Node.{pointers}
use Rattle.sled_nodes.specs.Image.{all_of}
use Rattle.sled_nodes.proofs.node.Node.greatest.Goals as goal

pub returns-in-Index-clause-least_such : goal.returns-in-Index-clause-least_such
returns-in-Index-clause-least_such c = λ n k e.
    let node = c.args.self.now in
    let next : all_of (λ p. nat_le p n) node.next ≡ true = first_true _ _ e in
    let rest : (all_of (λ p. nat_le p n) node.merging_child && list_all (λ x. nat_le x.1 n) (pointers node.content)) ≡ true = second_true (all_of (λ p. nat_le p n) node.next) _ e in
    let child : all_of (λ p. nat_le p n) node.merging_child ≡ true = first_true _ _ rest in
    let all : list_all (λ x. nat_le x.1 n) (pointers node.content) ≡ true = second_true (all_of (λ p. nat_le p n) node.merging_child) _ rest in
    c.greatest.ensures.least_such n (c.greater_of-child.ensures.least_such n (c.greater_of-next.ensures.least_such n k next) child) (rw c.in-Index.is at all)
