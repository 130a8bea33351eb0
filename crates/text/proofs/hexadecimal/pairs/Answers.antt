use Rattle.std.proofs.Common.{rules}
use Rattle.text.proofs.HexPairs.{after_nothing, pair_more, no_pair, all_pairs}
use Rattle.text.proofs.hexadecimal.pairs.Goals as goal

pub loop-high-init : goal.loop-high-init
loop-high-init c = after_nothing c.args.word.now _ c.new-bytes.ensures.items

pub returns-in_default : goal.returns-in_default
returns-in_default c =
    no_pair _ c.args.word.now c.as_chunks.result.0.now c.loop-high.high-index c.as_chunks.ensures.front c.as_chunks.ensures.front_len (search rules) c.loop-high.invariant
    c.in_default.ensures

pub loop-high-preserved : goal.loop-high-preserved
loop-high-preserved c =
    pair_more _ c.args.word.now c.as_chunks.result.0.now c.loop-high.high-index c.as_chunks.ensures.front c.as_chunks.ensures.front_len (search rules) c.loop-high.invariant
    _ _ c.in-Some.ensures c.in_ok-push.ensures.items

pub returns : goal.returns
returns c =
    rw (c.then_some.ensures, c.is_empty.ensures)
    (all_pairs _ _ c.args.word.now c.as_chunks.result.1.now c.loop-high.high-index c.loop-high.invariant (search rules) (search rules) c.as_chunks.ensures.back
    c.as_chunks.ensures.back_len)
