-- The base and the links of each page.
use Rattle.std.proofs.Common.{◌≡◌, ℕ, cond, true, false, Option, Some, None, Ok, refl, sym, ap, ◌∙◌}
use Rattle.std.proofs.Math.Path.{fun_ext}
use Rattle.std.specs.Option.{option_map}
use lib.Dec.{eqb}
use Rattle.sled_store.specs.Update.{put_at}
use Rattle.sled_nodes.specs.declared.link.Link.{Link}
use Rattle.sled_pages.specs.declared.memory.slots.Slot.{Slot}
use Rattle.sled_pages.specs.declared.memory.undo.Undo.{Undo}
use Rattle.sled_store.specs.declared.page.Page.{Page}
use Rattle.sled_store.specs.State.{nodes_of}
use Rattle.sled_store.specs.Store.{now}
use Rattle.sled_pages.specs.declared.memory.MemPages.{MemPages}
use Rattle.sled_pages.specs.Slots.{slots_of}
use Rattle.sled_pages.specs.Table.{page_of}
use Rattle.sled_pages.specs.Memory.{store_of, parts_of}
use Rattle.sled_pages.specs.Parts.{Parts, node_of, linked, ChangesParts}
use Rattle.sled_pages.proofs.Kept.{pages_here}
use Rattle.sled_pages.specs.theory.Linking.{Relinked}

abbrev page_in : Slot → Parts
page_in s = s.page

abbrev pub parts_in : (ℕ → Option Slot) → ℕ → Option Parts
parts_in slots pid = option_map page_in (slots pid)

pub parts_put : (slots new : ℕ → Option Slot) (pid : ℕ) (slot : Option Slot) → new ≡ put_at slots pid slot → parts_in new ≡ put_at (parts_in slots) pid (option_map page_in slot)
parts_put slots new pid slot e = fun_ext (λ q. ap (λ f. option_map page_in (f q)) e
    ∙ elim (eqb q pid) as (λ b. option_map page_in (cond b slot (slots q)) ≡ cond b (option_map page_in slot) (option_map page_in (slots q))) [ true ↦ refl | false ↦ refl ])

pub link_parts : (link : Link) (pid version next : ℕ) (slots new : ℕ → Option Slot) (undo : Undo) (old : ℕ → Option Parts) → parts_in slots ≡ old → Relinked link pid version next slots new undo → parts_in new ≡ put_at old pid (option_map (linked link) (old pid))
link_parts link pid version next slots new undo old same h =
    parts_put slots new pid _ h.is
    ∙ (ap (put_at (parts_in slots) pid) (ap (λ o. option_map (linked link) (option_map page_in o)) (sym h.was))
    ∙ ap (λ f. put_at f pid (option_map (linked link) (f pid))) same)

pub changed_parts : {X : Type 0} (becomes : Option Parts → Option Parts) (pid : ℕ) (mid old new : ℕ → Option Parts) (done : X) → mid ≡ old → new ≡ put_at mid pid (becomes (mid pid)) → ChangesParts becomes pid old new (Ok done)
changed_parts becomes pid mid old new done same e = record { is = e ∙ ap (λ f. put_at f pid (becomes (f pid))) same }

-- base and links join to the node now
pub parts_join : (m : MemPages) (pid : ℕ) (o : Option Parts) → o ≡ parts_of m pid → option_map node_of o ≡ nodes_of (now (store_of m)) pid
parts_join m pid o e = ap (option_map node_of) e ∙ (same (slots_of m.slots pid) ∙ ap (option_map (λ (g : Page). g.node)) (sym (pages_here m pid)))
  where
    same : (s : Option Slot) → option_map node_of (option_map page_in s) ≡ option_map (λ (g : Page). g.node) (option_map page_of s)
    same None = refl
    same (Some x) = refl
