use Rattle.chain_laws.proofs.Public.{start_rises, start_with_rises, start_counts, start_with_counts, turn_rises, kept_rises, chain_rises, turn_keeps_count, kept_keeps_count, chain_keeps_count}
use Rattle.chain_laws.proofs.items_keep_their_form.Goals as goal

pub returns : goal.returns
returns c = record { start_rises = start_rises; start_with_rises = start_with_rises; start_counts = start_counts; start_with_counts = start_with_counts; turn_rises = turn_rises; kept_rises = kept_rises; chain_rises = chain_rises; turn_keeps_count = turn_keeps_count; kept_keeps_count = kept_keeps_count; chain_keeps_count = chain_keeps_count }
