use Rattle.std.proofs.Common.{arith, ◌≡◌, ◌∙◌, ◌+◌, ◌/◌, ◌++◌, ℕ, List, Bool, sym, subst, refl, ap, ap₂, length, take}
use Rattle.std.specs.Prelude.{slice_index}
use Rattle.std.specs.Io.KnownBytes.{Consumes}
use Rattle.tmds_word.specs.Bits.{bytes_bits}
use Rattle.capture_file.specs.Layout.{packed}
use Rattle.capture_file.specs.Captures.{Stands, bits_in}
use Rattle.capture_file.proofs.Packing.{length-packed}
use Rattle.capture_file.proofs.Takings.{ended}
use Rattle.capture_file.proofs.Standing.{stands_more, unpacked}
use Rattle.capture_file.proofs.capture_reader.CaptureReader.next.Goals as goal

-- a block's bytes and the bits that they are
lane_bits : (bytes : List ℕ) (u : List Bool) (count : ℕ) → bytes ≡ packed u → length u ≡ count → take count (bytes_bits bytes) ≡ u
lane_bits bytes u count is len = ap (λ bs. take count (bytes_bits bs)) is ∙ unpacked u count len

lane_size : (bytes : List ℕ) (u : List Bool) (count : ℕ) → bytes ≡ packed u → length u ≡ count → length bytes ≡ (count + 7) / 8
lane_size bytes u count is len = ap length is ∙ length-packed u ∙ ap (λ n. (n + 7) / 8) len

stands_given : (version : ℕ) (counts : List ℕ) (j p q r : ℕ) (taken a b d : List ℕ) (x y z u v w : List Bool) → Stands version counts j taken x y z
    → p ≡ bits_in j (slice_index counts 0) → q ≡ bits_in j (slice_index counts 1) → r ≡ bits_in j (slice_index counts 2)
    → a ≡ packed u → b ≡ packed v → d ≡ packed w → length u ≡ p → length v ≡ q → length w ≡ r
    → Stands version counts (j + 1) (taken ++ ((a ++ b) ++ d)) (x ++ take p (bytes_bits a)) (y ++ take q (bytes_bits b)) (z ++ take r (bytes_bits d))
stands_given version counts j p q r taken a b d x y z u v w s ep eq er ea eb ed lu lv lw = grind (arith, stands_more, lane_bits)

pub returns-in-Ok-true : goal.returns-in-Ok-true
returns-in-Ok-true g c =
    let o = c.args.self.now in
    let n = c.advance.new.self in
    let e = c.in-Ok-true.ensures in
    let t = c.in-Ok-true.field-0-test in
    let l = c.lent.ensures in
    let b0 = l.bits.0 ∙ ap (λ bs. bits_in o.block (slice_index bs 0)) c.advance.ensures.bits in
    let b1 = l.bits.1 ∙ ap (λ bs. bits_in o.block (slice_index bs 1)) c.advance.ensures.bits in
    let b2 = l.bits.2 ∙ ap (λ bs. bits_in o.block (slice_index bs 2)) c.advance.ensures.bits in
    let r = c.lent.result in
    let lb = e.blue t ∙ sym b0 in
    let lg = e.green t ∙ sym b1 in
    let lr = e.red t ∙ sym b2 in
    let all : (packed n.lanes.blue ++ packed n.lanes.green) ++ packed n.lanes.red ≡ (r.blue.now ++ r.green.now) ++ r.red.now =
    sym (ap₂ (λ xs ys. (xs ++ ys) ++ r.red.now) l.blue l.green ∙ ap (λ zs. (packed n.lanes.blue ++ packed n.lanes.green) ++ zs) l.red) in (
      (
        refl,
        (λ _. tt),
        (
          c.advance.ensures.same,
          c.advance.ensures.version,
          c.advance.ensures.bits,
          c.advance.ensures.later,
          (e.open ∙ t, (e.block t).0, subst (λ bs. Consumes (g.S.Source.left o.source.now) (g.S.Source.left n.source.now) bs) all (e.ok t)),
          tt,
        ),
      ),
      record {
        bits = (b0, b1, b2);
        sizes = (lane_size r.blue.now n.lanes.blue (slice_index r.bits 0) l.blue lb, lane_size r.green.now n.lanes.green (slice_index r.bits 1) l.green lg, lane_size r.red.now n.lanes.red (slice_index r.bits 2) l.red lr);
        some = e.some t;
        stands = grind (arith, stands_given);
        whole = λ taken x y z s. tt;
        err = λ bytes taken x y z left s. tt;
        after = tt;
      },
    )

pub returns-in-Ok-false : goal.returns-in-Ok-false
returns-in-Ok-false g c =
    let o = c.args.self.now in
    let e = c.in-Ok-false.ensures in
    let t = c.in-Ok-false.field-0-test in
    let n = e.none t in (
      (
        refl,
        (λ _. tt),
        (c.advance.ensures.same, c.advance.ensures.version, c.advance.ensures.bits, c.advance.ensures.later, (e.open ∙ t, n.1, n.2), tt),
      ),
      record {
        bits = tt;
        sizes = tt;
        some = tt;
        stands = λ taken x y z s. tt;
        whole = λ taken x y z s. (ended o.bits o.block _ taken x y z s n.0).holds;
        err = λ bytes taken x y z left s. tt;
        after = tt;
      },
    )
