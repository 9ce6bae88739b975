-- The laws, for the crates above.
use Rattle.text_laws.specs.Laws.{PrintedProgramsAreTexts, PrintedProgramsAreReadAgain, PrintedProgramsAreLoadedAgain}
use Rattle.text_laws.proofs.Texts.{program_is_text}
use Rattle.text_laws.proofs.Programs.{programs_are_read}
use Rattle.text_laws.proofs.Loading.{programs_are_loaded}

pub printed_programs_are_texts : PrintedProgramsAreTexts
printed_programs_are_texts = program_is_text

pub printed_programs_are_read_again : PrintedProgramsAreReadAgain
printed_programs_are_read_again = programs_are_read

pub printed_programs_are_loaded_again : PrintedProgramsAreLoadedAgain
printed_programs_are_loaded_again = programs_are_loaded
