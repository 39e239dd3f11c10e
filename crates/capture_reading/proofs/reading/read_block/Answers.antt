use Rattle.std.proofs.Common.{ℕ, ◌+◌, ◌*◌, ◌/◌, ◌^◌, ◌<◌, ◌≤◌, min, length, slice_index, List, inl, inr, arith, subst, [], ◌++◌, Option, Result, Ok, Err, Some, None, ◌≡◌}
use Rattle.std.specs.Prelude.{IfOk, IfErr, IfSome, IfNone, MatchOption}
use Rattle.std.proofs.lemmas.Bool.{cases_lt}
use Rattle.link_sink.specs.Received.{CanFeed}
use Rattle.capture_file.specs.Captures.{bits_in}
use Rattle.std.specs.Io.KnownBytes.{Consumes}
use Rattle.capture_reading.specs.Reading.{StopsShort, most_of}
use Rattle.capture_reading.specs.declared.reading.ReadCaptureError.{ReadCaptureError}
use Rattle.capture_reading.proofs.BlockReading.{heard_more, untaken, heard_all, stops_short}
use Rattle.capture_reading.proofs.reading.read_block.Goals as goal

some_of : {T : Type 0} (P : T → Type 0) (o : Option T) (b : T) → IfSome o P → o ≡ Some b → P b
some_of P o b h is = subst (λ x. IfSome x P) is h

none_of : {T : Type 0} (P : Type 0) (o : Option T) → IfNone o P → o ≡ None → P
none_of P o h is = subst (λ x. IfNone x P) is h

-- a lane whose bits up to a block were fed takes those of the block
can_feed : (fed most j count bits : ℕ) (bytes : List ℕ) → fed ≡ min count (32768 * j) → fed ≤ most → most ≤ 32768 * j → bits ≡ bits_in j count
    → length bytes ≡ (bits + 7) / 8 → count < 2 ^ 32 → CanFeed fed most bytes bits
can_feed fed most j count bits bytes f above below b len small =
    elim (cases_lt (32768 * j) count) [
      | inl some ↦ record { most = omega arith; bytes_given = len; whole = inr (omega arith); going = inr (omega arith); total = omega arith }
      | inr over ↦ record { most = omega arith; bytes_given = len; whole = inl (omega arith); going = inl (omega arith); total = omega arith }
    ]

-- what holds of a block that were received, and where none were received
block_of : {T E : Type 0} (N : Type 0) (P : T → Type 0) (r : Result (Option T) E) (o : Option T) (b : T) → IfOk r (λ x. MatchOption x N P) → r ≡ Ok o → o ≡ Some b → P b
block_of N P r o b h is some = subst (λ x. MatchOption x N P) some (subst (λ x. IfOk x (λ y. MatchOption y N P)) is h)

end_of : {T E : Type 0} (N : Type 0) (P : T → Type 0) (r : Result (Option T) E) (o : Option T) → IfOk r (λ x. MatchOption x N P) → r ≡ Ok o → o ≡ None → N
end_of N P r o h is none = subst (λ x. MatchOption x N P) none (subst (λ x. IfOk x (λ y. MatchOption y N P)) is h)

err_case : {T E : Type 0} (P : E → Type 0) (r : Result T E) (e : E) → IfErr r P → r ≡ Err e → P e
err_case P r e h is = subst (λ x. IfErr x P) is h

pub returns-in-Ok-clause-heard : goal.returns-in-Ok-clause-heard
returns-in-Ok-clause-heard g c =
    let o = c.args.reader.now in
    let v = c.next.follows.lender-at-none in
    let b = c.in-Ok-Some.block in
    let gone : Consumes (g.S.Source.left o.source.now) (g.S.Source.left v.source.now) ((b.blue.now ++ b.green.now) ++ b.red.now) = (block_of _ _ _ _ _ c.next.follows.holds-at-none.4 c.in-Ok-Some.is c.in-Ok-Some.field-0-is).2 in
    λ from first h _.
    heard_more g.K.BlockSink.heard o.version o.bits o.block from (g.S.Source.left o.source.now) (g.S.Source.left v.source.now) c.args.sink.now c.feed_block.new.self b.blue.now b.green.now b.red.now b.bits first c.args.ear.now c.feed_block.new.ear h gone (λ taken x y z s. some_of _ _ _ (c.in-Ok-Some.ensures.stands taken x y z s) c.in-Ok-Some.field-0-is) (λ fed. c.in-Ok.ensures.heard fed first)

pub returns-in-Err-feed_block-clause-short : goal.returns-in-Err-feed_block-clause-short
returns-in-Err-feed_block-clause-short g c =
    let o = c.args.reader.now in
    let v = c.next.follows.lender-at-none in
    let b = c.in-Ok-Some.block in
    let gone : Consumes (g.S.Source.left o.source.now) (g.S.Source.left v.source.now) ((b.blue.now ++ b.green.now) ++ b.red.now) = (block_of _ _ _ _ _ c.next.follows.holds-at-none.4 c.in-Ok-Some.is c.in-Ok-Some.field-0-is).2 in
    λ from first h.
    untaken g.K.BlockSink.heard g.K.BlockSink.stops g.K.BlockSink.stops_last o.version o.bits o.block from (g.S.Source.left o.source.now) (g.S.Source.left v.source.now) c.args.sink.now b.blue.now b.green.now b.red.now b.bits first c.args.ear.now c.feed_block.new.ear h gone (λ taken x y z s. some_of _ _ _ (c.in-Ok-Some.ensures.stands taken x y z s) c.in-Ok-Some.field-0-is) (λ fed. c.in-Err-feed_block.ensures.stopped fed first)

pub returns-in-Ok-None-clause-whole : goal.returns-in-Ok-None-clause-whole
returns-in-Ok-None-clause-whole g c =
    let o = c.args.reader.now in
    let v = c.next.follows.lender-at-none in
    let gone : Consumes (g.S.Source.left o.source.now) (g.S.Source.left v.source.now) [] = (end_of _ _ _ _ c.next.follows.holds-at-none.4 c.in-Ok-None.is c.in-Ok-None.field-0-is).1 in
    λ from first h _.
    heard_all g.K.BlockSink.heard o.version o.bits o.block from (g.S.Source.left o.source.now) (g.S.Source.left v.source.now) c.args.sink.now first c.args.ear.now h gone (λ taken x y z s. none_of _ _ (c.in-Ok-None.ensures.whole taken x y z s) c.in-Ok-None.field-0-is)

pub returns-in-Err-clause-short : goal.returns-in-Err-clause-short
returns-in-Err-clause-short g c =
    let o = c.args.reader.now in
    let v = c.next.follows.lender-at-none in
    let part = (err_case _ _ _ c.next.follows.holds-at-none.5 c.in-Err.is).2 in
    λ from first h.
    subst (λ (r : ReadCaptureError). StopsShort g.K.BlockSink.so_far g.K.BlockSink.stops g.K.BlockSink.stops_last from (g.S.Source.left v.source.now) first c.args.ear.now r) c.refused.ensures.refused
    (stops_short g.K.BlockSink.heard g.K.BlockSink.so_far g.K.BlockSink.stops g.K.BlockSink.stops_last g.met.K.BlockSink.reported o.version o.bits o.block from (g.S.Source.left o.source.now) (g.S.Source.left v.source.now) c.args.sink.now first c.args.ear.now c.in-Err.error h c.in-Err.ensures.err part)

pub returns-in-Ok-clause-taken : goal.returns-in-Ok-clause-taken
returns-in-Ok-clause-taken g c =
    let b = c.in-Ok-Some.block in
    let gone : Consumes (g.S.Source.left c.args.reader.now.source.now) (g.S.Source.left c.next.follows.lender-at-none.source.now) ((b.blue.now ++ b.green.now) ++ b.red.now) = (block_of _ _ _ _ _ c.next.follows.holds-at-none.4 c.in-Ok-Some.is c.in-Ok-Some.field-0-is).2 in
    ((b.blue.now ++ b.green.now) ++ b.red.now, gone)

pub returns-in-Err-feed_block-clause-taken : goal.returns-in-Err-feed_block-clause-taken
returns-in-Err-feed_block-clause-taken g c =
    let b = c.in-Ok-Some.block in
    let gone : Consumes (g.S.Source.left c.args.reader.now.source.now) (g.S.Source.left c.next.follows.lender-at-none.source.now) ((b.blue.now ++ b.green.now) ++ b.red.now) = (block_of _ _ _ _ _ c.next.follows.holds-at-none.4 c.in-Ok-Some.is c.in-Ok-Some.field-0-is).2 in
    ((b.blue.now ++ b.green.now) ++ b.red.now, gone)

pub returns-in-Ok-None-clause-taken : goal.returns-in-Ok-None-clause-taken
returns-in-Ok-None-clause-taken g c =
    let gone : Consumes (g.S.Source.left c.args.reader.now.source.now) (g.S.Source.left c.next.follows.lender-at-none.source.now) [] = (end_of _ _ _ _ c.next.follows.holds-at-none.4 c.in-Ok-None.is c.in-Ok-None.field-0-is).1 in
    ([], gone)

pub returns-in-Err-clause-taken : goal.returns-in-Err-clause-taken
returns-in-Err-clause-taken g c = (err_case _ _ _ c.next.follows.holds-at-none.5 c.in-Err.is).3

pub returns-in-Ok-clause-same : goal.returns-in-Ok-clause-same
returns-in-Ok-clause-same g c = c.next.follows.holds-at-none.0

pub returns-in-Ok-clause-version : goal.returns-in-Ok-clause-version
returns-in-Ok-clause-version g c = c.next.follows.holds-at-none.1

pub returns-in-Ok-clause-bits : goal.returns-in-Ok-clause-bits
returns-in-Ok-clause-bits g c = c.next.follows.holds-at-none.2

pub returns-in-Ok-clause-input_later : goal.returns-in-Ok-clause-input_later
returns-in-Ok-clause-input_later g c = c.next.follows.holds-at-none.3

pub returns-in-Err-feed_block-clause-same : goal.returns-in-Err-feed_block-clause-same
returns-in-Err-feed_block-clause-same g c = c.next.follows.holds-at-none.0

pub returns-in-Err-feed_block-clause-version : goal.returns-in-Err-feed_block-clause-version
returns-in-Err-feed_block-clause-version g c = c.next.follows.holds-at-none.1

pub returns-in-Err-feed_block-clause-bits : goal.returns-in-Err-feed_block-clause-bits
returns-in-Err-feed_block-clause-bits g c = c.next.follows.holds-at-none.2

pub returns-in-Err-feed_block-clause-input_later : goal.returns-in-Err-feed_block-clause-input_later
returns-in-Err-feed_block-clause-input_later g c = c.next.follows.holds-at-none.3

pub returns-in-Ok-None-clause-same : goal.returns-in-Ok-None-clause-same
returns-in-Ok-None-clause-same g c = c.next.follows.holds-at-none.0

pub returns-in-Ok-None-clause-version : goal.returns-in-Ok-None-clause-version
returns-in-Ok-None-clause-version g c = c.next.follows.holds-at-none.1

pub returns-in-Ok-None-clause-bits : goal.returns-in-Ok-None-clause-bits
returns-in-Ok-None-clause-bits g c = c.next.follows.holds-at-none.2

pub returns-in-Ok-None-clause-input_later : goal.returns-in-Ok-None-clause-input_later
returns-in-Ok-None-clause-input_later g c = c.next.follows.holds-at-none.3

pub returns-in-Err-clause-same : goal.returns-in-Err-clause-same
returns-in-Err-clause-same g c = c.next.follows.holds-at-none.0

pub returns-in-Err-clause-version : goal.returns-in-Err-clause-version
returns-in-Err-clause-version g c = c.next.follows.holds-at-none.1

pub returns-in-Err-clause-bits : goal.returns-in-Err-clause-bits
returns-in-Err-clause-bits g c = c.next.follows.holds-at-none.2

pub returns-in-Err-clause-input_later : goal.returns-in-Err-clause-input_later
returns-in-Err-clause-input_later g c = c.next.follows.holds-at-none.3

pub returns-in-Ok-clause-more : goal.returns-in-Ok-clause-more
returns-in-Ok-clause-more g c = (block_of _ _ _ _ _ c.next.follows.holds-at-none.4 c.in-Ok-Some.is c.in-Ok-Some.field-0-is).0

pub returns-in-Ok-clause-block : goal.returns-in-Ok-clause-block
returns-in-Ok-clause-block g c = λ more. (block_of _ _ _ _ _ c.next.follows.holds-at-none.4 c.in-Ok-Some.is c.in-Ok-Some.field-0-is).1

pub returns-in-Ok-None-clause-more : goal.returns-in-Ok-None-clause-more
returns-in-Ok-None-clause-more g c = (end_of _ _ _ _ c.next.follows.holds-at-none.4 c.in-Ok-None.is c.in-Ok-None.field-0-is).0

pub returns-in-Ok-None-clause-ended : goal.returns-in-Ok-None-clause-ended
returns-in-Ok-None-clause-ended g c = λ less. (end_of _ _ _ _ c.next.follows.holds-at-none.4 c.in-Ok-None.is c.in-Ok-None.field-0-is).2

pub feed_block-requires-clause-block : goal.feed_block-requires-clause-block
feed_block-requires-clause-block g c =
    let block = c.in-Ok-Some.block in
    let bits = some_of _ _ _ c.in-Ok-Some.ensures.bits c.in-Ok-Some.field-0-is in
    let sizes = some_of _ _ _ c.in-Ok-Some.ensures.sizes c.in-Ok-Some.field-0-is in
    let counts = c.args.reader.now.bits in
    let j = c.args.reader.now.block in
    let fed = g.K.BlockSink.bits c.args.sink.now in
    let one = c.requires.fed.blue in
    let two = c.requires.fed.green in
    let three = c.requires.fed.red in
    record {
      blue = can_feed (fed 0) (most_of fed) j (slice_index counts 0) (slice_index block.bits 0) block.blue.now c.requires.fed.blue (omega arith) (omega arith) bits.0 sizes.0 (c.requires.said.small 0 (omega arith));
      green = can_feed (fed 1) (most_of fed) j (slice_index counts 1) (slice_index block.bits 1) block.green.now c.requires.fed.green (omega arith) (omega arith) bits.1 sizes.1 (c.requires.said.small 1 (omega arith));
      red = can_feed (fed 2) (most_of fed) j (slice_index counts 2) (slice_index block.bits 2) block.red.now c.requires.fed.red (omega arith) (omega arith) bits.2 sizes.2 (c.requires.said.small 2 (omega arith));
    }
