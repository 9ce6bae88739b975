use Rattle.map_main.proofs.Clauses.{said, shelf_fault, sink_fault, out_of_memory, never, shelf_quiet, sink_quiet, without_command, right_or_no_memory, keeps_provability_on_files, fills_script_on_files}
use Rattle.map_main.proofs.run.map_run.Goals as goal

pub returns-clause-said : goal.returns-clause-said
returns-clause-said g c = said c.args.words.now _ _ _ _ _ _ _ _ _ c.answer.ensures.ends

pub returns-clause-headline : goal.returns-clause-headline
returns-clause-headline g c = λ e program script means files before t k. keeps_provability_on_files c.args.words.now _ _ _ _ _ _ _ _ _ c.answer.ensures.ends e program script means files before t k

pub returns-clause-filled : goal.returns-clause-filled
returns-clause-filled g c = λ e program script means files before t k. fills_script_on_files c.args.words.now _ _ _ _ _ _ _ _ _ c.answer.ensures.ends e program script means files before t k

pub returns-clause-shelf_fault : goal.returns-clause-shelf_fault
returns-clause-shelf_fault g c = shelf_fault c.args.words.now _ _ _ _ _ _ _ _ _ c.answer.ensures.ends

pub returns-clause-sink_fault : goal.returns-clause-sink_fault
returns-clause-sink_fault g c = sink_fault c.args.words.now _ _ _ _ _ _ _ _ _ c.answer.ensures.ends

pub returns-clause-no_memory : goal.returns-clause-no_memory
returns-clause-no_memory g c = out_of_memory c.args.words.now _ _ _ _ _ _ _ _ _ c.answer.ensures.ends

pub returns-clause-never : goal.returns-clause-never
returns-clause-never g c = never c.args.words.now _ _ _ _ _ _ _ _ _ c.answer.ensures.ends

pub returns-clause-shelf_quiet : goal.returns-clause-shelf_quiet
returns-clause-shelf_quiet g c = shelf_quiet c.args.words.now _ _ _ _ _ _ _ _ _ c.answer.ensures.ends

pub returns-clause-sink_quiet : goal.returns-clause-sink_quiet
returns-clause-sink_quiet g c = sink_quiet c.args.words.now _ _ _ _ _ _ _ _ _ c.answer.ensures.ends

pub returns-clause-no_command : goal.returns-clause-no_command
returns-clause-no_command g c = without_command c.args.words.now _ _ _ _ _ _ _ _ _ c.answer.ensures.ends

pub returns-clause-right : goal.returns-clause-right
returns-clause-right g c = λ files t a b. right_or_no_memory c.args.words.now _ _ _ _ _ _ _ _ _ c.answer.ensures.ends files t a b
