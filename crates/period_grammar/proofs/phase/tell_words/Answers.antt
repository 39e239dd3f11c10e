use Rattle.std.proofs.Common.{ap, ◌∙◌, ◌++◌, refl, arith}
use Rattle.period_grammar.specs.Noted.{events}
use Rattle.period_grammar.specs.Heard.{other_words, other_word}
use Rattle.terc4.specs.Tables.{is_control}
use Rattle.tmds_word.specs.Column.{column_of}
use Rattle.period_grammar.proofs.FewWords.{few_words}
use Rattle.period_grammar.proofs.Phases.{three_words}
use Rattle.period_grammar.proofs.phase.tell_words.Goals as goal

pub returns-clause-reported : goal.returns-clause-reported
unfolding other_words
returns-clause-reported c bytes =
    c.tell_word-3.ensures.reported bytes
    ∙ ap (λ ts. ts ++ other_word 2 c.args.n (is_control c.red.result)) (c.tell_word-2.ensures.reported bytes ∙ ap (λ ts. ts ++ other_word 1 c.args.n (is_control c.green.result)) (c.tell_word.ensures.reported bytes))
    ∙ three_words (events bytes c.args.notes.now) c.args.n _ _ _ (column_of c.args.column.now) c.blue.ensures c.green.ensures c.red.ensures

pub tell_word-requires-2 : goal.tell_word-requires-2
tell_word-requires-2 c =
    let few = few_words c.args.n _ _ _ (column_of c.args.column.now) c.blue.ensures c.green.ensures refl c.requires.control in
    record { room = omega (arith, few, c.tell_word.ensures.room, c.requires.room) }

pub tell_word-requires-3 : goal.tell_word-requires-3
tell_word-requires-3 c =
    let few = few_words c.args.n _ _ _ (column_of c.args.column.now) c.blue.ensures c.green.ensures c.red.ensures c.requires.control in
    record { room = omega (arith, few, c.tell_word.ensures.room, c.tell_word-2.ensures.room, c.requires.room) }

pub returns-clause-room : goal.returns-clause-room
returns-clause-room c =
    let few = few_words c.args.n _ _ _ (column_of c.args.column.now) c.blue.ensures c.green.ensures c.red.ensures c.requires.control in
    omega (arith, few, c.tell_word.ensures.room, c.tell_word-2.ensures.room, c.tell_word-3.ensures.room)
