-- A forest with one new chain.
use Rattle.std.proofs.Common.{◌≡◌, ◌≢◌, ℕ, List, refl, inl, inr}
use Rattle.tree_laws.specs.Forest.{Place}
use Rattle.tree_laws.proofs.Replace.{same_place}

abbrev pub put_chain : (Place → List ℕ) → Place → List ℕ → Place → List ℕ
put_chain f x c y = elim (same_place y x) [ inl e ↦ c | inr e ↦ f y ]

pub chain_here : (f : Place → List ℕ) (x : Place) (c : List ℕ) → put_chain f x c x ≡ c
chain_here f x c = elim (same_place x x) as (λ s. (elim s as (λ _. List ℕ) [ inl e ↦ c | inr e ↦ f x ]) ≡ c) [ inl e ↦ refl | inr e ↦ absurd (e refl) ]

pub chain_there : (f : Place → List ℕ) (x : Place) (c : List ℕ) (y : Place) → y ≢ x → put_chain f x c y ≡ f y
chain_there f x c y off = elim (same_place y x) as (λ s. (elim s as (λ _. List ℕ) [ inl e ↦ c | inr e ↦ f y ]) ≡ f y) [ inl e ↦ absurd (off e) | inr e ↦ refl ]
