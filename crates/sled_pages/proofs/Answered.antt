-- What the tests of a store in memory tell.
use Rattle.std.proofs.Common.{◌≡◌, ℕ, List, Option, Some, None, Ok, refl, sym, ap, subst, ◌∙◌}
use Rattle.sled_nodes.proofs.Basics.{none_some}
use Rattle.std.specs.Option.{option_map}
use Rattle.sled_store.specs.declared.page.Page.{Page}
use Rattle.sled_pages.specs.declared.memory.MemPages.{MemPages}
use Rattle.sled_pages.specs.declared.memory.slots.Slot.{Slot}
use Rattle.sled_store.specs.Store.{Store, now, version_now, ActsAt, Changes, IsRoots}
use Rattle.sled_store.specs.State.{PageBecomes}
use Rattle.sled_nodes.specs.Order.{Key}
use Rattle.sled_nodes.specs.declared.node.Node.{Node}
use Rattle.sled_pages.specs.Slots.{slots_of}
use Rattle.sled_pages.specs.Table.{page_of}
use Rattle.sled_pages.specs.Memory.{store_of}
use Rattle.sled_pages.specs.theory.Memory.{IsOther}
use Rattle.sled_pages.proofs.Kept.{pages_here, roots_here}

-- the version of a page, by its slot
version_here : (m : MemPages) (pid : ℕ) (o : Option Slot) → slots_of m.slots pid ≡ o → version_now (store_of m) pid ≡ option_map (λ p. p.version) (option_map page_of o)
version_here m pid o e = ap (option_map (λ p. p.version)) (pages_here m pid) ∙ ap (λ o. option_map (λ (p : Page). p.version) (option_map page_of o)) e

pub has_version : (m : MemPages) (pid version : ℕ) (o : Option Slot) (slot : Slot) → o ≡ slots_of m.slots pid → o ≡ Some slot → slot.version ≡ version → version_now (store_of m) pid ≡ Some version
has_version m pid version o slot e f h = version_here m pid (Some slot) (sym e ∙ f) ∙ ap (λ v. Some v) h

some_same : {v w : ℕ} → Some v ≡ Some w → v ≡ w
some_same e = cc

pub has_other : (m : MemPages) (pid version : ℕ) (o : Option Slot) (slot : Slot) → o ≡ slots_of m.slots pid → o ≡ Some slot → (slot.version ≡ version → ⊥) → IsOther pid version (store_of m) (Some slot.version)
has_other m pid version o slot e f h = record { is = sym (version_here m pid (Some slot) (sym e ∙ f)); other = λ k. h (some_same k) }

pub has_none : (m : MemPages) (pid version : ℕ) (o : Option Slot) → o ≡ slots_of m.slots pid → o ≡ None → IsOther pid version (store_of m) None
has_none m pid version o e f = record { is = sym (version_here m pid None (sym e ∙ f)); other = λ k. cc }

pub page_is : (m : MemPages) (pid : ℕ) (o p : Option Slot) → o ≡ slots_of m.slots pid → o ≡ p → option_map page_of p ≡ (now (store_of m)).pages pid
page_is m pid o p e f = ap (option_map page_of) (sym f ∙ e) ∙ sym (pages_here m pid)

-- a page of this version has a node
page_at_version : (s : Store) (pid version : ℕ) (o : Option Page) → (now s).pages pid ≡ o → version_now s pid ≡ Some version → (page : Page) × (o ≡ Some page) × (page.version ≡ version)
page_at_version s pid version None e h = none_some (sym (ap (option_map (λ (p : Page). p.version)) e) ∙ h)
page_at_version s pid version (Some page) e h = (page, refl, some_same (sym (ap (option_map (λ (p : Page). p.version)) e) ∙ h))

-- a change that is made
pub changes : (change : Node → Node) (pid version given : ℕ) (old mid new : Store) (page : Page) (node : Node) → mid ≡ old → version_now mid pid ≡ Some version → Some page ≡ (now mid).pages pid → node ≡ change page.node →
    ActsAt (PageBecomes pid (Some (record { version = given; node = node }))) given mid new → Changes change pid version old new (Ok given)
changes change pid version given old mid new page node same has here is acts =
    let k = page_at_version mid pid version (Some page) (sym here) has in
    let same_page : k.0 ≡ page = some_page (sym k.1) in
    let v : page.version ≡ version = ap (λ (p : Page). p.version) (sym same_page) ∙ k.2 in
    subst (λ (s : Store). Changes change pid version s new (Ok given)) same (record {
      is = (page.node, sym here ∙ ap (λ v. Some (record { version = v; node = page.node })) v, subst (λ (n : Node). ActsAt (PageBecomes pid (Some (record { version = given; node = n }))) given mid new) is acts);
    })
  where
    some_page : {p q : Page} → Some p ≡ Some q → p ≡ q
    some_page e = cc

pub replaces : (pid version given : ℕ) (old mid new : Store) (node : Node) → mid ≡ old → version_now mid pid ≡ Some version →
    ActsAt (PageBecomes pid (Some (record { version = given; node = node }))) given mid new → Changes (λ _. node) pid version old new (Ok given)
replaces pid version given old mid new node same has acts =
    let k = page_at_version mid pid version ((now mid).pages pid) refl has in
    changes (λ _. node) pid version given old mid new k.0 node same has (sym k.1) refl acts

-- all roots
pub roots_told : (m : MemPages) (listed all : List (Key × ℕ)) → all ≡ m.roots.items → listed ≡ all → IsRoots (now (store_of m)) listed
roots_told m listed all e f = rw (f, e) (record { ascends = m.ascends; is = λ name. roots_here m name })
