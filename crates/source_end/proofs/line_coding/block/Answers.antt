use Rattle.std.proofs.Common.{arith, rules, ◌≡◌, ◌+◌, ◌/◌, ◌*◌, ◌%◌, ◌<◌, ◌≤◌, ◌++◌, ℕ, List, length, take, drop, ap, sym, ◌∙◌, length-append, length-take-le}
use Rattle.std.proofs.lemmas.Slice.{take-put_mid}
use borrow.Rule.Slice.PartMut.{put_mid}
use Rattle.tmds_word.specs.Bits.{bytes_bits}
use Rattle.tmds_word.specs.Words.{all_words, packed_columns}
use Rattle.island_pack.specs.Periods.{pixels_of}
use Rattle.source_end.proofs.LineCodings.{block_coded, packed_size}
use Rattle.source_end.proofs.Fronts.{on_err, front_of_coded}
use Rattle.source_end.proofs.line_coding.block.Goals as goal

written : (n : ℕ) (old bs : List ℕ) → length bs ≡ n → n ≤ 320 → all_words (bytes_bits (take n (put_mid 0 n old bs))) ≡ all_words (bytes_bits bs)
written n old bs e le = ap (λ xs. all_words (bytes_bits xs)) (take-put_mid 0 n old bs n (omega (arith, e)) (omega arith))

pub returns-clause-ok : goal.returns-clause-ok
returns-clause-ok g c =
    let bytes = c.args.bytes.now in
    let n = length bytes / 12 * 5 in
    let le : n ≤ 320 = omega (arith, c.requires.few) in
    let bs = c.code.new.into in
    let gs = c.code-2.new.into in
    let rs = c.code-3.new.into in
    let blue : length bs ≡ n = search rules in
    let green : length gs ≡ n = search rules in
    let red : length rs ≡ n = search rules in
    let own = packed_size bytes bs c.requires.whole blue in (
      packed_columns (take n (put_mid 0 n c.args.blue.now bs)) (take n (put_mid 0 n c.args.green.now gs)) (take n (put_mid 0 n c.args.red.now rs)),
      c.in_ok-packed.ensures.ok,
      block_coded c.args.coders.blue c.args.coders.green c.args.coders.red (pixels_of bytes) c.code.result c.code-2.result c.code-3.result (all_words (bytes_bits bs)) (all_words (bytes_bits gs)) (all_words (bytes_bits rs))
          _ _ _ (written n c.args.blue.now bs blue le) (written n c.args.green.now gs green le) (written n c.args.red.now rs red le)
          (packed_size bytes gs c.requires.whole green ∙ sym own) (packed_size bytes rs c.requires.whole red ∙ sym own) own
          c.code.ensures.coded c.code-2.ensures.coded c.code-3.ensures.coded,
    )

pub returns-in_err-packed-clause-part : goal.returns-in_err-packed-clause-part
returns-in_err-packed-clause-part g c =
    let bytes = c.args.bytes.now in
    let n = length bytes / 12 * 5 in
    let le : n ≤ 320 = omega (arith, c.requires.few) in
    let cut = c.in_err-packed.ensures.part in
    let bs = c.code.new.into in
    let gs = c.code-2.new.into in
    let rs = c.code-3.new.into in
    let blue : length bs ≡ n = search rules in
    let green : length gs ≡ n = search rules in
    let red : length rs ≡ n = search rules in
    let own = packed_size bytes bs c.requires.whole blue in
    on_err c.from_residual.result
    (front_of_coded (g.C.ColumnSink.taken c.args.out.now) (g.C.ColumnSink.taken c.packed.new.self)
    (packed_columns (take n (put_mid 0 n c.args.blue.now bs)) (take n (put_mid 0 n c.args.green.now gs)) (take n (put_mid 0 n c.args.red.now rs)))
    c.args.coders.blue c.args.coders.green c.args.coders.red (pixels_of bytes) c.code.result c.code-2.result c.code-3.result cut.0 cut.1
    (block_coded c.args.coders.blue c.args.coders.green c.args.coders.red (pixels_of bytes) c.code.result c.code-2.result c.code-3.result (all_words (bytes_bits bs)) (all_words (bytes_bits gs)) (all_words (bytes_bits rs))
    _ _ _ (written n c.args.blue.now bs blue le) (written n c.args.green.now gs green le) (written n c.args.red.now rs red le)
    (packed_size bytes gs c.requires.whole green ∙ sym own) (packed_size bytes rs c.requires.whole red ∙ sym own) own
    c.code.ensures.coded c.code-2.ensures.coded c.code-3.ensures.coded))

-- What is said of lengths, of any room of 320 bytes.

size_few : (len : ℕ) → len ≤ 768 → len / 12 * 5 ≤ 320
size_few len few = omega arith

front_size : (len : ℕ) (zeros : List ℕ) → length zeros ≡ 320 → len ≤ 768 → length (take (len / 12 * 5) zeros) ≡ len / 12 * 5
front_size len zeros long few = length-take-le (len / 12 * 5) zeros (omega (arith, long, size_few len few))

within : (len : ℕ) (bs zeros : List ℕ) → length zeros ≡ 320 → len ≤ 768 → length bs ≡ length (take (len / 12 * 5) zeros) → len / 12 * 5 ≤ length (bs ++ drop (len / 12 * 5) zeros)
within len bs zeros long few size = omega (arith, size, front_size len zeros long few, length-append bs (drop (len / 12 * 5) zeros))

written_size : (len : ℕ) (bs zeros : List ℕ) → length zeros ≡ 320 → len ≤ 768 → length bs ≡ length (take (len / 12 * 5) zeros)
    → length (take (len / 12 * 5) (bs ++ drop (len / 12 * 5) zeros)) ≡ len / 12 * 5
written_size len bs zeros long few size = length-take-le (len / 12 * 5) (bs ++ drop (len / 12 * 5) zeros) (within len bs zeros long few size)

whole_fives : (len n : ℕ) → n ≡ len / 12 * 5 → n % 5 ≡ 0
whole_fives len n is = omega arith

room_left : (taken len n : ℕ) → n ≡ len / 12 * 5 → taken + len / 3 < 429496729 → taken + n / 5 * 4 ≤ 429496729
room_left taken len n is room = omega arith

pub overflow_mul-size : goal.overflow_mul-size
overflow_mul-size g c = let le = size_few (length c.args.bytes.now) c.requires.few in omega (arith, le)

pub code-requires-clause-part : goal.code-requires-clause-part
code-requires-clause-part g c = omega arith

pub code-requires-clause-whole : goal.code-requires-clause-whole
code-requires-clause-whole g c = c.requires.whole

pub code-requires-clause-room : goal.code-requires-clause-room
code-requires-clause-room g c = front_size (length c.args.bytes.now) c.args.blue.now (search (rules, c.well_formed)) c.requires.few

pub code-requires-2-clause-part : goal.code-requires-2-clause-part
code-requires-2-clause-part g c = omega arith

pub code-requires-2-clause-whole : goal.code-requires-2-clause-whole
code-requires-2-clause-whole g c = c.requires.whole

pub code-requires-2-clause-room : goal.code-requires-2-clause-room
code-requires-2-clause-room g c = front_size (length c.args.bytes.now) c.args.green.now (search (rules, c.well_formed)) c.requires.few

pub code-requires-3-clause-part : goal.code-requires-3-clause-part
code-requires-3-clause-part g c = omega arith

pub code-requires-3-clause-whole : goal.code-requires-3-clause-whole
code-requires-3-clause-whole g c = c.requires.whole

pub code-requires-3-clause-room : goal.code-requires-3-clause-room
code-requires-3-clause-room g c = front_size (length c.args.bytes.now) c.args.red.now (search (rules, c.well_formed)) c.requires.few

pub packed-requires-clause-fives : goal.packed-requires-clause-fives
packed-requires-clause-fives g c = whole_fives (length c.args.bytes.now) _ (written_size (length c.args.bytes.now) c.code.new.into c.args.blue.now (search (rules, c.well_formed)) c.requires.few c.code.ensures.size)

pub packed-requires-clause-green : goal.packed-requires-clause-green
packed-requires-clause-green g c = written_size (length c.args.bytes.now) c.code-2.new.into c.args.green.now (search (rules, c.well_formed)) c.requires.few c.code-2.ensures.size ∙ sym (written_size (length c.args.bytes.now) c.code.new.into c.args.blue.now (search (rules, c.well_formed)) c.requires.few c.code.ensures.size)

pub packed-requires-clause-red : goal.packed-requires-clause-red
packed-requires-clause-red g c = written_size (length c.args.bytes.now) c.code-3.new.into c.args.red.now (search (rules, c.well_formed)) c.requires.few c.code-3.ensures.size ∙ sym (written_size (length c.args.bytes.now) c.code.new.into c.args.blue.now (search (rules, c.well_formed)) c.requires.few c.code.ensures.size)

pub packed-requires-clause-room : goal.packed-requires-clause-room
packed-requires-clause-room g c = room_left (length (g.C.ColumnSink.taken c.args.out.now)) (length c.args.bytes.now) _ (written_size (length c.args.bytes.now) c.code.new.into c.args.blue.now (search (rules, c.well_formed)) c.requires.few c.code.ensures.size) c.requires.room

pub slice_bounds-packed-end : goal.slice_bounds-packed-end
slice_bounds-packed-end g c = sym (written_size (length c.args.bytes.now) c.code.new.into c.args.blue.now (search (rules, c.well_formed)) c.requires.few c.code.ensures.size)

pub slice_bounds-packed-end-2 : goal.slice_bounds-packed-end-2
slice_bounds-packed-end-2 g c = sym (written_size (length c.args.bytes.now) c.code-2.new.into c.args.green.now (search (rules, c.well_formed)) c.requires.few c.code-2.ensures.size)

pub slice_bounds-packed-end-3 : goal.slice_bounds-packed-end-3
slice_bounds-packed-end-3 g c = sym (written_size (length c.args.bytes.now) c.code-3.new.into c.args.red.now (search (rules, c.well_formed)) c.requires.few c.code-3.ensures.size)
