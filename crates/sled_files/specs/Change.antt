-- What changes make of a store's state, and which actions of a store they are.
use Rattle.std.specs.Prelude.{◌≡◌, ◌≤◌, ◌<◌, ◌^◌, ℕ, false, List, [], ◌∷◌, Option, Some, None, option_map}
use Rattle.std.specs.List.{All}
use Rattle.sled_nodes.specs.Node.{after_link}
use Rattle.sled_nodes.specs.declared.link.Link.{Link}
use Rattle.sled_store.specs.declared.page.Page.{Page}
use Rattle.sled_store.specs.State.{State, Action, PageBecomes, RootBecomes, GroupBegins, GroupEnds, after}
use Rattle.sled_bytes.specs.declared.change.Change.{Change}
use Rattle.sled_bytes.specs.declared.change.Change.TheVariants.{Given, Linked, Freed, Rooted, Begun, Sealed, Marked, Limited}

-- what a file has: the state, the mark, and the limits below which page numbers and versions are set aside
pub record Durable : Type 0 where
  pub state : State
  pub mark : ℕ
  pub pids : ℕ
  pub versions : ℕ

abbrev pub nothing_yet : Durable
nothing_yet = record { state = record { pages = λ _. None; roots = λ _. None; in_group = false }; mark = 0; pids = 0; versions = 0 }

-- the page with one link more, and the version that it was given
abbrev pub linked : ℕ → Link → Option Page → Option Page
linked version link page = option_map (λ p. record { version = version; node = after_link link p.node }) page

-- the action of a store that a change is, in a state
abbrev pub action_of : Change → State → Option Action
action_of (Given pid version node) s = Some (PageBecomes pid (Some (record { version = version; node = node })))
action_of (Linked pid version link) s = Some (PageBecomes pid (linked version link (s.pages pid)))
action_of (Freed pid) s = Some (PageBecomes pid None)
action_of (Rooted name root) s = Some (RootBecomes name root)
action_of Begun s = Some GroupBegins
action_of Sealed s = Some GroupEnds
action_of (Marked upto) s = None
action_of (Limited pids versions) s = None

abbrev pub acted : Option Action → State → State
acted (Some a) s = after a s
acted None s = s

abbrev pub mark_after : Change → ℕ → ℕ
mark_after (Marked upto) mark = upto
mark_after _ mark = mark

abbrev pub limits_after : Change → ℕ × ℕ → ℕ × ℕ
limits_after (Limited pids versions) limits = (pids, versions)
limits_after _ limits = limits

abbrev pub changed : Change → Durable → Durable
changed c d = record {
  state = acted (action_of c d.state) d.state;
  mark = mark_after c d.mark;
  pids = (limits_after c (d.pids, d.versions)).0;
  versions = (limits_after c (d.pids, d.versions)).1;
}

-- after all changes, the first of them first
abbrev pub changed_all : List Change → Durable → Durable
changed_all [] d = d
changed_all (c ∷ changes) d = changed_all changes (changed c d)

-- the actions of a store among the changes, from a state on
abbrev pub with_action : Option Action → List Action → List Action
with_action (Some a) actions = a ∷ actions
with_action None actions = actions

abbrev pub actions_of : List Change → State → List Action
actions_of [] s = []
actions_of (c ∷ changes) s = with_action (action_of c s) (actions_of changes (acted (action_of c s) s))

-- numbers of pages and versions are below the limits, and no page has number 0
abbrev pub IsWithin : Durable → Change → Type 0
IsWithin d (Given pid version node) = (0 < pid) × (pid < d.pids) × (version < d.versions)
IsWithin d (Linked pid version link) = (0 < pid) × (version < d.versions)
IsWithin d _ = Unit {0}

-- Changes of a store and what they make: their numbers are below the limits, which have 64 bits, and no group is left open
pub record AreOfStore (changes : List Change) (d : Durable) : Type 0 where
  pub within : All (IsWithin d) changes
  pub fits : d.versions < 2 ^ 64
  pub sealed : d.state.in_group ≡ false

-- changes that a store adds to what its files have: they make the limits no lower
pub record AreAdded (changes : List Change) (before : Durable) : Type 0 where
  pub of_store : AreOfStore changes (changed_all changes before)
  pub pids : before.pids ≤ (changed_all changes before).pids
  pub versions : before.versions ≤ (changed_all changes before).versions
