use Rattle.std.proofs.Common.{◌≡◌, ◌+◌, ◌<◌, ◌^◌, ◌∙◌, ap, length, ◌++◌, List, arith}
use Rattle.sled_nodes.proofs.Basics.{ok_weaker}
use Rattle.sled_log.specs.Digest.{digest}
use Rattle.sled_log.specs.Append.{behind_gate}
use Rattle.sled_bytes.specs.declared.change.Change.{Change}
use Rattle.sled_files.specs.Change.{nothing_yet, changed_all, AreOfStore}
use Rattle.sled_files.specs.Header.{header}
use Rattle.sled_files.specs.Pending.{Spells}
use Rattle.sled_files.specs.theory.Begun.{IsFirstBlock}
use Rattle.sled_files.proofs.Headers.{first_length}
use Rattle.sled_files.proofs.begin.first_block.Goals as goal

pub returns-clause-ok : goal.returns-clause-ok
returns-clause-ok c =
    let whole : c.deref.result.now ≡ header c.args.generation ++ c.args.payload.now = c.deref.ensures.value ∙ c.in_ok-bytes.ensures.ok in
    let few : length (header c.args.generation ++ c.args.payload.now) < 2 ^ 64 = omega (arith, ap length whole, c.deref.ensures.len) in
    ok_weaker (λ block. block.items ≡ behind_gate digest c.deref.result.now) (λ block. (changes : List Change) → Spells c.args.payload.now changes → AreOfStore changes (changed_all changes nothing_yet) → IsFirstBlock block.items c.args.payload.now c.args.generation changes)
    (λ block is changes spells made. record { fits = c.ranges.generation.fits; spells = spells; made = made; few = few; bytes_are = is ∙ ap (behind_gate digest) whole })
    c.block_of.result
    c.block_of.ensures.ok

pub returns-clause-len : goal.returns-clause-len
returns-clause-len c =
    ok_weaker (λ block. block.items ≡ behind_gate digest c.deref.result.now) (λ block. length block.items ≡ length c.args.payload.now + 37)
    (λ block is. first_length c.args.generation c.args.payload.now c.deref.result.now block.items (c.deref.ensures.value ∙ c.in_ok-bytes.ensures.ok) is)
    c.block_of.result
    c.block_of.ensures.ok
