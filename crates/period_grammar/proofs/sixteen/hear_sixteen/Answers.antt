use Rattle.std.proofs.Common.{◌∙◌, ◌++◌, ap, take, arith}
use Rattle.tmds_word.specs.Lent.{columns_in}
use Rattle.period_grammar.specs.Heard.{line_bytes}
use Rattle.period_grammar.specs.Sixteen.{pixels}
use Rattle.period_grammar.proofs.Fronts.{count_is, columns_are, few_pixels, long_lane, put_to, heard_to}
use Rattle.period_grammar.proofs.sixteen.hear_sixteen.Goals as goal

pub front_of-blue-requires : goal.front_of-blue-requires
front_of-blue-requires c =
    few_pixels c.count_pixels-count.result (columns_in c.args.columns) c.requires.sixteen
    (count_is c.count_pixels-count.result c.control_columns-controls.result (columns_in c.args.columns) _ _ _ _ _ _ c.requires.sixteen c.blue.ensures.lane c.green.ensures.lane c.red.ensures.lane
    c.judge_words-blue_wrong.ensures.controls c.judge_words-green_wrong.ensures.controls c.judge_words-red_wrong.ensures.controls c.control_columns-controls.ensures c.count_pixels-count.ensures)

pub front_of-green-requires : goal.front_of-green-requires
front_of-green-requires c =
    few_pixels c.count_pixels-count.result (columns_in c.args.columns) c.requires.sixteen
    (count_is c.count_pixels-count.result c.control_columns-controls.result (columns_in c.args.columns) _ _ _ _ _ _ c.requires.sixteen c.blue.ensures.lane c.green.ensures.lane c.red.ensures.lane
    c.judge_words-blue_wrong.ensures.controls c.judge_words-green_wrong.ensures.controls c.judge_words-red_wrong.ensures.controls c.control_columns-controls.ensures c.count_pixels-count.ensures)

pub front_of-red-requires : goal.front_of-red-requires
front_of-red-requires c =
    few_pixels c.count_pixels-count.result (columns_in c.args.columns) c.requires.sixteen
    (count_is c.count_pixels-count.result c.control_columns-controls.result (columns_in c.args.columns) _ _ _ _ _ _ c.requires.sixteen c.blue.ensures.lane c.green.ensures.lane c.red.ensures.lane
    c.judge_words-blue_wrong.ensures.controls c.judge_words-green_wrong.ensures.controls c.judge_words-red_wrong.ensures.controls c.control_columns-controls.ensures c.count_pixels-count.ensures)

pub returns-clause-within : goal.returns-clause-within
returns-clause-within c =
    few_pixels c.count_pixels-count.result (columns_in c.args.columns) c.requires.sixteen
    (count_is c.count_pixels-count.result c.control_columns-controls.result (columns_in c.args.columns) _ _ _ _ _ _ c.requires.sixteen c.blue.ensures.lane c.green.ensures.lane c.red.ensures.lane
    c.judge_words-blue_wrong.ensures.controls c.judge_words-green_wrong.ensures.controls c.judge_words-red_wrong.ensures.controls c.control_columns-controls.ensures c.count_pixels-count.ensures)

pub returns-clause-pixels : goal.returns-clause-pixels
returns-clause-pixels c =
    count_is c.count_pixels-count.result c.control_columns-controls.result (columns_in c.args.columns) _ _ _ _ _ _ c.requires.sixteen c.blue.ensures.lane c.green.ensures.lane c.red.ensures.lane
    c.judge_words-blue_wrong.ensures.controls c.judge_words-green_wrong.ensures.controls c.judge_words-red_wrong.ensures.controls c.control_columns-controls.ensures c.count_pixels-count.ensures

pub returns-clause-put : goal.returns-clause-put
returns-clause-put c =
    let n = c.count_pixels-count.result in
    let room = c.requires.room in
    let few = few_pixels n (columns_in c.args.columns) c.requires.sixteen
    (count_is c.count_pixels-count.result c.control_columns-controls.result (columns_in c.args.columns) _ _ _ _ _ _ c.requires.sixteen c.blue.ensures.lane c.green.ensures.lane c.red.ensures.lane
    c.judge_words-blue_wrong.ensures.controls c.judge_words-green_wrong.ensures.controls c.judge_words-red_wrong.ensures.controls c.control_columns-controls.ensures c.count_pixels-count.ensures) in
    put_to n c.args.place c.args.room.now c.put_pixels.new.room _ _ _ few (omega (arith, room))
    (c.put_pixels.ensures.put ∙ (λ i. take c.args.place c.args.room.now ++ pixels (c.judge_words-red_wrong.ensures.bytes i) (c.judge_words-green_wrong.ensures.bytes i) (c.judge_words-blue_wrong.ensures.bytes i)))
    ∙ ap (λ cs. take c.args.place c.args.room.now ++ line_bytes (take n cs)) (columns_are (columns_in c.args.columns) _ _ _ c.blue.ensures.lane c.green.ensures.lane c.red.ensures.lane)

pub returns-clause-blue : goal.returns-clause-blue
returns-clause-blue c =
    let few = few_pixels c.count_pixels-count.result (columns_in c.args.columns) c.requires.sixteen
    (count_is c.count_pixels-count.result c.control_columns-controls.result (columns_in c.args.columns) _ _ _ _ _ _ c.requires.sixteen c.blue.ensures.lane c.green.ensures.lane c.red.ensures.lane
    c.judge_words-blue_wrong.ensures.controls c.judge_words-green_wrong.ensures.controls c.judge_words-red_wrong.ensures.controls c.control_columns-controls.ensures c.count_pixels-count.ensures) in
    let word = c.judge_words-blue_wrong.ensures in
    heard_to c.count_pixels-count.result c.args.steps.blue c.blue.result.now _ _ c.front_of-blue.result few (long_lane _ _ (columns_in c.args.columns) c.blue.ensures.lane c.requires.sixteen) word.words c.blue.ensures.lane word.wrong c.front_of-blue.ensures.wrong
    (c.front_of-blue.ensures.ones c.blue.result.now word.ones)

pub returns-clause-green : goal.returns-clause-green
returns-clause-green c =
    let few = few_pixels c.count_pixels-count.result (columns_in c.args.columns) c.requires.sixteen
    (count_is c.count_pixels-count.result c.control_columns-controls.result (columns_in c.args.columns) _ _ _ _ _ _ c.requires.sixteen c.blue.ensures.lane c.green.ensures.lane c.red.ensures.lane
    c.judge_words-blue_wrong.ensures.controls c.judge_words-green_wrong.ensures.controls c.judge_words-red_wrong.ensures.controls c.control_columns-controls.ensures c.count_pixels-count.ensures) in
    let word = c.judge_words-green_wrong.ensures in
    heard_to c.count_pixels-count.result c.args.steps.green c.green.result.now _ _ c.front_of-green.result few (long_lane _ _ (columns_in c.args.columns) c.green.ensures.lane c.requires.sixteen) word.words c.green.ensures.lane word.wrong c.front_of-green.ensures.wrong
    (c.front_of-green.ensures.ones c.green.result.now word.ones)

pub returns-clause-red : goal.returns-clause-red
returns-clause-red c =
    let few = few_pixels c.count_pixels-count.result (columns_in c.args.columns) c.requires.sixteen
    (count_is c.count_pixels-count.result c.control_columns-controls.result (columns_in c.args.columns) _ _ _ _ _ _ c.requires.sixteen c.blue.ensures.lane c.green.ensures.lane c.red.ensures.lane
    c.judge_words-blue_wrong.ensures.controls c.judge_words-green_wrong.ensures.controls c.judge_words-red_wrong.ensures.controls c.control_columns-controls.ensures c.count_pixels-count.ensures) in
    let word = c.judge_words-red_wrong.ensures in
    heard_to c.count_pixels-count.result c.args.steps.red c.red.result.now _ _ c.front_of-red.result few (long_lane _ _ (columns_in c.args.columns) c.red.ensures.lane c.requires.sixteen) word.words c.red.ensures.lane word.wrong c.front_of-red.ensures.wrong
    (c.front_of-red.ensures.ones c.red.result.now word.ones)
