use Rattle.std.proofs.Common.{◌≡◌, ◌⊎◌, ℕ, ◌+◌, ◌≤◌, max, refl, sym, subst, arith}
use Rattle.track_sink.specs.Epochs.{most_of, front_of}
use Rattle.relock_sink.specs.RivalSearches.{IsRefutedBefore}
use Rattle.relock_sink.specs.declared.refuter.Refuter.{Refuter}
use Rattle.relock_sink.proofs.Refuters.{watched_on, limit_within, limit_rises, place_small, small_place, refuted_found, none_found}
use Rattle.relock_sink.proofs.refuter.Refuter.look.Goals as goal

pub next_end-end-requires-clause-lent : goal.next_end-end-requires-clause-lent
next_end-end-requires-clause-lent c =
    let l = c.requires.lent in
    (front_of c.args.shown l.0, c.front.ensures.lent l.0 l.1, watched_on c.args.self.now l.0 c.args.shown l.2 c.requires.more)

pub limit_of-limit-requires : goal.limit_of-limit-requires
limit_of-limit-requires c =
    let l = c.requires.lent in
    let is = c.next_end-end.ensures.found (front_of c.args.shown l.0) (c.front.ensures.lent l.0 l.1) (watched_on c.args.self.now l.0 c.args.shown l.2 c.requires.more) in
    small_place c.next_end-end.result (most_of l.0) l.1.small (place_small c.args.self.now l.0 c.args.shown l.2 c.requires.more l.3 c.next_end-end.new.self c.next_end-end.result is)

pub look-requires-clause-lent : goal.look-requires-clause-lent
look-requires-clause-lent c =
    let l = c.requires.lent in
    let is = c.next_end-end.ensures.found (front_of c.args.shown l.0) (c.front.ensures.lent l.0 l.1) (watched_on c.args.self.now l.0 c.args.shown l.2 c.requires.more) in
    let P : ℕ → Type 0 = λ n. (n ≡ 0) ⊎ (n + 89 ≤ most_of l.0) in
    (l.0, l.1, l.2.rivals, subst P (sym c.limit_of-limit.ensures) (limit_within c.args.self.now l.0 c.args.shown l.2 c.requires.more l.3 c.next_end-end.new.self c.next_end-end.result is))

pub look-requires-clause-rises : goal.look-requires-clause-rises
look-requires-clause-rises c =
    let l = c.requires.lent in
    let is = c.next_end-end.ensures.found (front_of c.args.shown l.0) (c.front.ensures.lent l.0 l.1) (watched_on c.args.self.now l.0 c.args.shown l.2 c.requires.more) in
    let P : ℕ → Type 0 = λ n. (n ≡ 0) ⊎ (c.args.self.now.rivals.alignments.limit ≤ n) in
    subst P (sym c.limit_of-limit.ensures) (limit_rises c.args.self.now l.0 c.args.shown l.2 c.requires.more l.3 c.next_end-end.new.self c.next_end-end.result is)

pub returns-in-Some-clause-found : goal.returns-in-Some-clause-found
returns-in-Some-clause-found c = λ fed lent looked long.
    let is = c.next_end-end.ensures.found (front_of c.args.shown fed) (c.front.ensures.lent fed lent) (watched_on c.args.self.now fed c.args.shown looked c.requires.more) in
    let P : ℕ → Type 0 = λ n. (n ≡ 0) ⊎ (n + 89 ≤ most_of fed) in
    let within = subst P (sym c.limit_of-limit.ensures) (limit_within c.args.self.now fed c.args.shown looked c.requires.more long c.next_end-end.new.self c.next_end-end.result is) in
    refuted_found fed c.args.shown long c.next_end-end.new.self c.next_end-end.result c.in-Some.place is
    (subst (λ n. IsRefutedBefore fed n c.in-Some.place) c.limit_of-limit.ensures (c.in-Some.ensures.found fed lent looked.rivals within))

pub returns-in-None-clause-found : goal.returns-in-None-clause-found
returns-in-None-clause-found c = λ fed lent looked long.
    let is = c.next_end-end.ensures.found (front_of c.args.shown fed) (c.front.ensures.lent fed lent) (watched_on c.args.self.now fed c.args.shown looked c.requires.more) in
    let P : ℕ → Type 0 = λ n. (n ≡ 0) ⊎ (n + 89 ≤ most_of fed) in
    let within = subst P (sym c.limit_of-limit.ensures) (limit_within c.args.self.now fed c.args.shown looked c.requires.more long c.next_end-end.new.self c.next_end-end.result is) in
    let none = c.in-None.ensures.found fed lent looked.rivals within in
    let now : Refuter = record { relock = c.next_end-end.new.self; rivals = c.look.new.self; shown = c.args.shown } in
    let before = c.requires.more in
    let at = looked.limit in
    none_found fed c.args.shown long now c.args.self.now.rivals.alignments.limit c.next_end-end.result is refl none.0
    (subst (λ n. now.rivals.alignments.limit ≡ max c.args.self.now.rivals.alignments.limit n) c.limit_of-limit.ensures none.1) (omega arith)
