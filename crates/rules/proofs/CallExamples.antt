-- Each call and program comes to what its example says: one theorem.
use Rattle.std.specs.Prelude.{◌≡◌, refl, map}
use Rattle.rules.specs.Text.{pieces, digit, number, decimal, hex, escaped, name, field_of, row_of, row_texts, field_text}
use Rattle.rules.specs.Table.{section_of, attr_at, entry_of, step, in_table, sections_of, table_of, representatives}
use Rattle.rules.specs.Types.{store, limit}
use Rattle.rules.specs.Order.{order, sort}
use Rattle.rules.specs.Members.{is_subtype_of, flatten_composite, are_shapes_disjoint, are_output_types_disjoint}
use Rattle.rules.specs.Members.{is_output_subtype_or_equal, remove_tautological_pairs, absorb_subsumed_union_members}
use Rattle.rules.specs.Members.{merge_attrset_intersection, remove_redundant_negations, has_type_contradiction}
use Rattle.rules.specs.Members.{simplify_union_neg_intersection, factor_shared_from_intersection, negate_output_ty}
use Rattle.rules.specs.Canonicalizer.{expand_bounds, expand_bounds_empty_fallback, canonicalize_inner, inter_rest, inter_retry, inter_rule}
use Rattle.rules.specs.Canonicalizer.{union_rule, rule, entered, visit, pass, canonicalize, first_pass, answer_of}
use Rattle.rules.specs.Listing.{walk, node_text, root_text, listing_text, node_of, node_in_form, old_listing}
use Rattle.rules.specs.Variables.{free_type_vars, normalize_vars}
use Rattle.rules.specs.Calls.{canon, canon_root, comparable, meets, recheck_text, recheck, split_next, canon_program, recheck_program}
use Rattle.rules.specs.CallExamples.{CallExample, comes_to, call_examples}

called : map (λ (e : CallExample). comes_to e.call) call_examples ≡ map (λ (e : CallExample). e.result) call_examples
unfolding pieces digit number decimal hex escaped name field_of row_of row_texts field_text
    section_of attr_at entry_of step in_table sections_of table_of representatives store limit order sort
    is_subtype_of flatten_composite are_shapes_disjoint are_output_types_disjoint is_output_subtype_or_equal
    remove_tautological_pairs absorb_subsumed_union_members merge_attrset_intersection remove_redundant_negations has_type_contradiction
    simplify_union_neg_intersection factor_shared_from_intersection negate_output_ty
    expand_bounds expand_bounds_empty_fallback canonicalize_inner inter_rest inter_retry inter_rule union_rule rule entered visit pass
    canonicalize first_pass answer_of free_type_vars normalize_vars walk node_text root_text listing_text node_of node_in_form old_listing
    canon canon_root comparable meets recheck_text recheck split_next canon_program recheck_program
called = refl
