-- Texts, tables and trees: a solid has one text and a text one solid, and every refusal says which rule was broken.
--
-- A solid and its text
--     text_of_injective (Judge)      solids with the same text are the same tree
--     judge_tree (Judge)             the text of a lawful solid that fits the rooms, read again: the same tables
--     judge_read (Judge)             a text that meets no refusal, written again: the same text, of lawful tables
--     judge_only (Judge)             it is the text of exactly one lawful solid
--     tables_lawful, tree_tables (Trees)   the tables of a lawful tree are lawful, and their tree is that tree
--     tree_lawful, tables_tree (Trees)     the tree of lawful tables is lawful, and its tables are those tables
--     text_length (Sizes)            the text of a lawful solid has at most 14,488 bytes
-- Refusals
--     why, stops, one_number (Rules)         a line is refused with a number exactly if it breaks the rule of that number, and no other
--     goes, takes, ends, finishes (Rules)    a line is taken exactly if it is by the rules
--     judge_refused, refused_judge, refused_one (Refusals)   a text is refused with a number at a line exactly if its first bad line is that one
--     bad_malformed, malformed_bad (Frames)  refusal 1: a character other than 0-9, A-F, an odd or empty line, a last line without LF
-- The merge program's input
--     merge_written, merge_read (MergeInput)      operation, A and B, written and read again, read and written again
--     merge_refused, refused_merge (MergeInput)   the rule that its first bad line broke
--     order_length (MergeInput)                   its text has at most 28,981 bytes
-- Tables lent directly
--     lent_accepted, lent_taken (Lent)      taken exactly if they are the rows of lawful tables
--     lent_as_text, lent_as_read (Lent)     tables that can be written get the verdict of their text
--     lent_refused, refused_lent (Lent)     the rule that their first bad line breaks
-- For code
--     lines_whole, lines_torn (Lines)              what a loop over characters meets
--     step_sound, passed_sound, rows_outside (Reached)   what holds of every state that lines lead to
--     filled_more, planes_end, nodes_end (Filled)        tables filled row by row
--     kept_used, entries_renumbered (Renumber)           rows streamed over a longer plane list, renumbered
--     row_size, one_sizes (Counts), uses_end (Uses)      sizes of trees in place of trees, and which planes a row uses
pub mod Hex
pub mod Lines
pub mod Numbers
pub mod Frames
pub mod Rows
pub mod Build
pub mod Stacks
pub mod Uses
pub mod Trees
pub mod Sizes
pub mod Rules
pub mod Reached
pub mod Judge
pub mod Refusals
pub mod MergeInput
pub mod Filled
pub mod Lent
pub mod Counts
pub mod Renumber
