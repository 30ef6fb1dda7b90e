-- What each change does to the weights of the pages that it touches.
use Rattle.std.proofs.Common.{ℕ, suc, ◌+◌, ◌≤◌, arith}
use Rattle.tree_progress.specs.Weights.{weight, first_weight}

-- a long page becomes its halves, of which the right one has no pointer yet,
pub split_lowers : (l r : ℕ) → l ≤ r → r ≤ suc l → 17 ≤ l + r → weight l + (weight r + 4) + 3 ≤ weight (l + r)
split_lowers l r a b c = omega arith

pub split_lowers_first : (l r : ℕ) → l ≤ r → r ≤ suc l → 17 ≤ l + r → first_weight l + (weight r + 4) + 3 ≤ first_weight (l + r)
split_lowers_first l r a b c = omega arith

-- .. of a merging child that is not capped
pub split_lowers_child : (l r : ℕ) → l ≤ r → r ≤ suc l → 17 ≤ l + r → (l + 5) + (weight r + 4) + 3 ≤ (l + r) + 5
split_lowers_child l r a b c = omega arith

-- the page before a capped child receives it
pub receive_lowers : (a c : ℕ) → a ≤ 16 → weight (a + c) + 3 + 1 ≤ weight a + (c + 4)
receive_lowers a c h = omega arith

pub receive_lowers_first : (a c : ℕ) → a ≤ 16 → first_weight (a + c) + 3 + 1 ≤ first_weight a + (c + 4)
receive_lowers_first a c h = omega arith

-- an index loses a pointer at most,
pub less_weight : (n m : ℕ) → m ≤ n → n ≤ suc m → weight m ≤ weight n + 2
less_weight n m a b = omega arith

pub less_first_weight : (n m : ℕ) → m ≤ n → first_weight m ≤ first_weight n + 2
less_first_weight n m a = omega arith

-- .. or gets one
pub more_weight : (n m : ℕ) → n ≤ m → m ≤ suc n → weight m ≤ weight n + 1
more_weight n m a b = omega arith

pub more_first_weight : (n m : ℕ) → m ≤ suc n → first_weight m ≤ first_weight n + 1
more_first_weight n m a = omega arith
