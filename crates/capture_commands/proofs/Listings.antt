-- What a lister has written of what is reported of lanes.
use Rattle.std.proofs.Common.{◌≡◌, ℕ, ◌+◌, ◌<◌, ◌≤◌, List, [], ◌∷◌, ◌++◌, length, take, refl, ap, sym, ◌∙◌, subst, inl, arith, append_assoc, append-nil, length-append}
use Rattle.std.specs.Prelude.{Option}
use Rattle.std.specs.Io.KnownBytes.{Appends, Keeps}
use Rattle.std.proofs.KnownBytes.{Appends-trans}
use Rattle.std.proofs.Math.Seq.{take-append-add}
use Rattle.std.proofs.lemmas.List.{take-append-le}
use Rattle.lane_deskew.specs.Aligned.{aligned_columns}
use Rattle.period_grammar.specs.Events.{Event}
use Rattle.link_sink.specs.Alignment.{IsAlignedBy}
use Rattle.link_sink.specs.Grammar.{Grammar}
use Rattle.link_sink.specs.Hearings.{IsGrammar}
use Rattle.link_sink.specs.Sinks.{Fed, IsReportedBy}
use Rattle.link_sink.specs.Ears.{IsBroken}
use Rattle.capture_commands.specs.Endings.{IsWrittenPast}
use Rattle.capture_commands.specs.Listings.{Listing}
use Rattle.capture_commands.specs.Listers.{IsText, Writes}

pub kept_nothing : (old new : Option (List ℕ)) → Appends old new [] → Keeps old new
kept_nothing old new h = grind (arith, append-nil)

pub kept_none : (listing : Listing) (after : List Event → List Event → List ℕ) (last : List Event → List ℕ) (old new : Option (List ℕ)) → IsText listing after last → Appends old new (listing.lines []) → Keeps old new
kept_none listing after last old new it h = kept_nothing old new (subst (λ (bytes : List ℕ). Appends old new bytes) it.none h)

-- a part of a text: some of its bytes, and a part of those after them
pub front_of : (text front back : List ℕ) (n : ℕ) → text ≡ front ++ back → front ++ take n back ≡ take (length front + n) text
front_of text front back n is = sym (take-append-add front back n) ∙ ap (λ t. take (length front + n) t) (sym is)

pub shorter : (text front back : List ℕ) (n : ℕ) → text ≡ front ++ back → n < length back → length front + n < length text
shorter text front back n is lt = grind (arith, length-append)

-- of two beginnings of events the one is the beginning of the other
pub record Goes {T : Type 0} (first taken : List T) : Type 0 where
  pub mid : List T
  pub is : taken ≡ first ++ mid

pub goes_on : {T : Type 0} (first taken more rest : List T) → first ++ more ≡ taken ++ rest → length first ≤ length taken → Goes first taken
goes_on [] taken more rest is le = record { mid = taken; is = refl }
goes_on (x ∷ first) [] more rest is le = absurd (omega (arith, le))
goes_on (x ∷ first) (y ∷ taken) more rest is le = grind (arith, goes_on first taken more rest)

least_of : (listing : Listing) (after : List Event → List Event → List ℕ) (last : List Event → List ℕ) (first taken : List Event) → IsText listing after last → Goes first taken
    → length (listing.lines first) ≤ length (listing.lines taken)
least_of listing after last first taken it g = grind (arith, length-append)

-- the lines of events of which one was not written whole
lines_parts : (listing : Listing) (after : List Event → List Event → List ℕ) (last : List Event → List ℕ) (events taken rest : List Event) (next : Event) → IsText listing after last → events ≡ taken ++ (next ∷ rest)
    → listing.lines events ≡ listing.lines taken ++ (after taken (next ∷ []) ++ after (taken ++ next ∷ []) rest)
lines_parts listing after last events taken rest next it is = grind (arith, append_assoc)

pub broken_past : {A : Type 0} (g : Grammar) (listing : Listing) (after : List Event → List Event → List ℕ) (last : List Event → List ℕ) (took : A → A → List Event → Type 0) (broke : A → A → Event → Type 0) (held : A → Option (List ℕ)) (before : Fed) (events : List Event) (old new : A)
    → IsText listing after last → Writes listing after took broke held old → (b : IsBroken g took broke before events old new)
    → IsWrittenPast (listing.lines b.first) (listing.lines events) (held old) (held new)
broken_past g listing after last took broke held before events old new it writes b =
    let s = b.stops in
    let broken = writes.breaks s.between new s.taken s.next s.took_some s.broke_then in
    let line = after s.taken (s.next ∷ []) in
    let more = after (s.taken ++ s.next ∷ []) s.rest in
    let m = length-append line more in
    let parts = lines_parts listing after last events s.taken s.rest s.next it s.events_are in
    let g = goes_on b.first s.taken b.more (s.next ∷ s.rest) (sym b.events_are ∙ s.events_are) b.past in
    let least = least_of listing after last b.first s.taken it g in
    record {
      gone = length (listing.lines s.taken) + broken.0;
      least = omega (arith, least);
      missing = shorter (listing.lines events) (listing.lines s.taken) (line ++ more) broken.0 parts (omega (arith, m, broken.1));
      written = subst (λ (bytes : List ℕ). Appends (held old) (held new) bytes) (front_of (listing.lines events) (listing.lines s.taken) (line ++ more) broken.0 parts)
          (Appends-trans (held old) (held s.between) (held new) (listing.lines s.taken) (take broken.0 (line ++ more)) (writes.grows s.between s.taken s.took_some)
          (subst (λ (bytes : List ℕ). Appends (held s.between) (held new) bytes) (sym (take-append-le broken.0 line more (omega (arith, broken.1)))) broken.2));
    }

-- a part of the lines is one of the whole text
pub text_past : (listing : Listing) (after : List Event → List Event → List ℕ) (last : List Event → List ℕ) (first events : List Event) (old new : Option (List ℕ)) → IsText listing after last
    → IsWrittenPast (listing.lines first) (listing.lines events) old new → IsWrittenPast (listing.lines first) (listing.text events) old new
text_past listing after last first events old new it p = grind (arith, length-append, take-append-le)

-- the last line was not written whole
pub end_past : (listing : Listing) (after : List Event → List Event → List ℕ) (last : List Event → List ℕ) (first events : List Event) (n : ℕ) (old mid new : Option (List ℕ)) → IsText listing after last
    → Goes first events → n < length (last events) → Appends old mid (listing.lines events) → Appends mid new (take n (last events)) → IsWrittenPast (listing.lines first) (listing.text events) old new
end_past listing after last first events n old mid new it g lt written then =
    let least = least_of listing after last first events it g in
    record {
      gone = length (listing.lines events) + n;
      least = omega (arith, least);
      missing = shorter (listing.text events) (listing.lines events) (last events) n (it.whole events) lt;
      written = subst (λ (bytes : List ℕ). Appends old new bytes) (front_of (listing.text events) (listing.lines events) (last events) n (it.whole events))
          (Appends-trans old mid new (listing.lines events) (take n (last events)) written then);
    }

-- what is reported of aligned lanes in all begins with what is reported of them so far
pub record BeginsReported (g : Grammar) (fed : Fed) (events : List Event) : Type 0 where
  pub first : List Event
  pub reported : IsReportedBy g fed first
  pub goes : Goes first events

pub begins_reported : (g : Grammar) (fed : Fed) (columns : ℕ) (events : List Event) → IsGrammar g → IsAlignedBy g fed.blue fed.green fed.red columns events → BeginsReported g fed events
begins_reported g fed columns events is all =
    let columns_are = aligned_columns fed.blue fed.green fed.red all.blue all.green all.red in
    let end = is.ended columns_are in
    record { first = g.so_far columns_are; reported = inl (all.blue, all.green, all.red, all.first, refl); goes = record { mid = end.0; is = all.reported ∙ end.1 } }

-- what holds from one value to another, said of values that they are
pub between : {A : Type 0} (P : A → A → Type 0) (a b c d : A) → b ≡ a → d ≡ c → P b c → P a d
between P a b c d first last h = subst (λ x. P a x) (sym last) (subst (λ x. P x c) first h)
